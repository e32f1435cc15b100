-- What functions that put texts onto a page ask and promise.
-- Assumes nothing.
use Rattle.std.specs.Prelude.{ℕ, ◌+◌, List, ◌≡◌, ◌≤◌, length}
use Rattle.std.specs.Borrow.{MutBor}
use Rattle.text.specs.Inner.{Put}
use Rattle.text.specs.declared.unchecked.lines.Page.{Page}

-- there is room for so many bytes behind the filled ones
abbrev pub Room : Page → ℕ → Type 0
Room page n = page.filled + n ≤ length page.bytes.now

-- A page over a lent slice has none of its bytes filled.
pub record Blank (lent : MutBor (List ℕ)) (page : Page) : Type 0 where
  pub same : page.bytes.ghost_name ≡ lent.ghost_name
  pub kept : page.bytes.now ≡ lent.now
  pub begun : page.filled ≡ 0

-- A text was put behind what was on the page.
pub record Puts (entry : Page) (text : List ℕ) (exit : Page) : Type 0 where
  pub same : exit.bytes.ghost_name ≡ entry.bytes.ghost_name
  pub long : length exit.bytes.now ≡ length entry.bytes.now
  pub put : Put entry.bytes.now entry.filled text exit.filled exit.bytes.now
