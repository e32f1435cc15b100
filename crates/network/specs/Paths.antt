-- Every way a packet can go (02, 103), over any rows.
-- Assumes nothing.
use Rattle.std.specs.Prelude.{ℕ, zero, suc, Bool, true, false, List, [], ◌∷◌, ◌++◌, map}
use Rattle.network.specs.Forwarding.{Forwarding}

-- 02, 103: from the destination there is one path, itself; elsewhere each path goes on from an entry of the row, the station in front
unfoldable pub paths_at : {S : Type 0} → S → Bool → List (List S) → List (List S)
paths_at s true onward = (s ∷ []) ∷ []
paths_at s false onward = map (λ p. s ∷ p) onward

module _ (f : Forwarding) where
  -- 02, 103: the paths through each entry in turn; an entry's paths are those `from` the station that it names
  unfoldable pub through_each : (f.State → List (List f.State)) → List f.Entry → List (List f.State)
  through_each from [] = []
  through_each from (e ∷ es) = from (f.next e) ++ through_each from es

  -- 02, 103: every path from a station to the destination, by at most `left` moves: those through each entry of its row in turn
  unfoldable pub paths_from : ℕ → f.State → List (List f.State)
  paths_from zero s = paths_at s (f.home s) []
  paths_from (suc left) s = paths_at s (f.home s) (through_each (paths_from left) (f.row s))

  -- 02, 103: every path through the entries of a row, by at most `left` moves from the station that an entry names
  unfoldable pub paths_through : ℕ → List f.Entry → List (List f.State)
  paths_through left es = through_each (paths_from left) es
