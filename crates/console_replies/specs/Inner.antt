-- Which definition each request has.
-- Assumes nothing.
use Rattle.std.specs.Prelude.{ℕ, List, [], ◌∷◌}
use Rattle.topology_types.specs.declared.Topology.{Topology}
use Rattle.console_held.specs.Questions.{Question}
use Rattle.console_replies.specs.Calls.{write_by, order_by, check_order_by, fill_by, check_table_by, count_by, walk_by_lem, list_by, old_stream_by, coverage_by, paths_by, te_by}
use Rattle.console_replies.specs.declared.unchecked.replies.Call.{Call}
use Rattle.console_replies.specs.declared.unchecked.replies.Call.TheVariants as call

-- `0 0 `
abbrev pub zeros_text : List ℕ
zeros_text = 48 ∷ 32 ∷ 48 ∷ 32 ∷ []

-- what each request answers, with the topology and the table that are held
unfoldable pub reply_to : Call → Topology → List ℕ → Question → List ℕ
reply_to call.Write = write_by
reply_to call.Order = order_by
reply_to call.CheckOrder = check_order_by
reply_to call.Fill = fill_by
reply_to call.CheckTable = check_table_by
reply_to call.Greatest = count_by
reply_to call.Walk = walk_by_lem
reply_to call.Listing = list_by
reply_to call.OldStream = old_stream_by
reply_to call.Paths = paths_by
reply_to call.Coverage = coverage_by
reply_to call.Te = te_by
