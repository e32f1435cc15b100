-- The program's output for some streams, as a list: a new fact is one line. Texts are given byte by byte.
-- Assumes nothing.
use Rattle.std.specs.Prelude.{ℕ, Bool, List, [], ◌∷◌, ◌++◌, T, take}
use Rattle.network.specs.Lists.{every, same_numbers}
use Rattle.stream_rules.specs.Facts.{routers, T-stream}
use Rattle.listing_rules.specs.Facts.{T-0, T-1, T-2, cut_off_all, pair_all}
use Rattle.listing.specs.Output.{listing_output}

-- a stream, and what is printed for it
pub record Fact : Type 0 where
  pub stream : List ℕ
  pub prints : List ℕ

unfoldable pub holds : Fact → Bool
holds f = same_numbers (listing_output f.stream) f.prints

-- `refused ` and what stands behind it
unfoldable pub refused : List ℕ → List ℕ
refused rest = 114 ∷ 101 ∷ 102 ∷ 117 ∷ 115 ∷ 101 ∷ 100 ∷ 32 ∷ rest

-- T and a fourth router, which has no link
unfoldable pub cut_off_stream : List ℕ
cut_off_stream = take 30 T-stream ++ (1 ∷ 0 ∷ 0 ∷ 0 ∷ 4 ∷ 3 ∷ [])

-- 01, Two networks by hand: T's whole output; 02, #107: that of T and a router without a link, and of two routers without a link; then 01's examples of
-- refusals: `refused 1 0` for nothing, `refused 2 0` for an unknown kind, `refused 11 31` for a byte after T, `refused 4 320` for 65 routers
unfoldable pub facts : List Fact
facts =
    record { stream = T-stream; prints = T-0 ++ (T-1 ++ T-2) }
    ∷ record { stream = cut_off_stream; prints = cut_off_all }
    ∷ record { stream = routers 2 ++ (3 ∷ []); prints = pair_all }
    ∷ record { stream = []; prints = refused (49 ∷ 32 ∷ 48 ∷ 10 ∷ []) }
    ∷ record { stream = 7 ∷ []; prints = refused (50 ∷ 32 ∷ 48 ∷ 10 ∷ []) }
    ∷ record { stream = T-stream ++ (0 ∷ []); prints = refused (49 ∷ 49 ∷ 32 ∷ 51 ∷ 49 ∷ 10 ∷ []) }
    ∷ record { stream = routers 65; prints = refused (52 ∷ 32 ∷ 51 ∷ 50 ∷ 48 ∷ 10 ∷ []) }
    ∷ []

abbrev pub FactsHold : Type 0
FactsHold = T (every holds facts)
