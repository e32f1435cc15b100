-- The letters of the kinds of fields.
-- Assumes nothing.
use Rattle.std.specs.Prelude.{ℕ}
use Rattle.console_held.specs.declared.unchecked.kind.Kind.{Kind}
use Rattle.console_held.specs.declared.unchecked.kind.Kind.TheVariants.{Place, Hops, Mode, Room, Bytes}
use Rattle.console_held.specs.Questions.{place_field, hops_field, mode_field, room_field, bytes_field}

-- the letter of a kind
unfoldable pub letter : Kind → ℕ
letter Place = place_field
letter Hops = hops_field
letter Mode = mode_field
letter Room = room_field
letter Bytes = bytes_field
