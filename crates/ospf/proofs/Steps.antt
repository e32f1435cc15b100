-- The steps of an import give what the import is: the tests of the whole file, the routers, and behind them the halves.
-- Assumes nothing.
use Prim.Native.Nat.{ℕ, ◌≤◌, ◌<◌}
use mathlib.Core.List.{List}
use mathlib.Core.Path.{◌≡◌}
use borrow.Author.Tests.{lt-ltb, le-ltb}
use lib.ListN.{length}
use Rattle.stream_rules.specs.Reading.{refusal}
use Rattle.ospf_lsas.specs.Lsa.{lsas, first_malformed_lem, first_wrong_sum_lem}
use Rattle.ospf.specs.Import.{importing}
use Rattle.ospf.specs.Inner.{taken_in_turn}

module _ (file : List ℕ) where
  pub by_26 : first_malformed_lem file < length file → refusal 26 (first_malformed_lem file) ≡ importing file
  unfolding importing
  by_26 h = rw (lt-ltb (first_malformed_lem file) (length file) h)

  module _ (whole : length file ≤ first_malformed_lem file) where
    pub by_27 : first_wrong_sum_lem file < length file → refusal 27 (first_wrong_sum_lem file) ≡ importing file
    unfolding importing
    by_27 h = rw (le-ltb (first_malformed_lem file) (length file) whole, lt-ltb (first_wrong_sum_lem file) (length file) h)

    pub by_turns : length file ≤ first_wrong_sum_lem file → taken_in_turn (lsas file) ≡ importing file
    unfolding importing taken_in_turn
    by_turns h = rw (le-ltb (first_malformed_lem file) (length file) whole, le-ltb (first_wrong_sum_lem file) (length file) h)
