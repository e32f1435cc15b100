-- The bytes of a link: one record where its costs agree, else two, and how long they are.
-- Assumes nothing.
use mathlib.Core.Bool.{Bool, true, false, cond}
use mathlib.Core.List.{◌∷◌, ◌++◌}
use mathlib.Core.Logic.{◌≢◌}
use mathlib.Core.Path.{◌≡◌, refl}
use borrow.Author.Tests.{eq-eqb, ne_eqb}
use lib.Dec.{eqb}
use lib.ListN.{length}
use Rattle.topology_types.specs.declared.Link.{Link}
use Rattle.stream_rules.specs.Stream.{in_bytes}
use Rattle.stream_rules.specs.Halves.{first_half, second_half}
use Rattle.topology.specs.Written.{half_body, half_bytes, link_bytes}

module _ (l : Link) where
  pub link_long : length (link_bytes l) ≡ cond (eqb l.cost l.back) 5 10
  unfolding link_bytes half_bytes half_body in_bytes
  link_long = either (eqb l.cost l.back)
    where
      either : (b : Bool) → length (cond b (2 ∷ half_body (first_half l)) (half_bytes (first_half l) ++ half_bytes (second_half l))) ≡ cond b 5 10
      either true = refl
      either false = refl

  module _ (e : l.cost ≡ l.back) where
    pub agreeing_bytes : link_bytes l ≡ 2 ∷ half_body (first_half l)
    unfolding link_bytes
    agreeing_bytes = rw (eq-eqb _ _ e)

    pub agreeing_long : length (link_bytes l) ≡ 5
    agreeing_long = rw (link_long, eq-eqb _ _ e)

  module _ (d : l.cost ≢ l.back) where
    pub differing_bytes : link_bytes l ≡ half_bytes (first_half l) ++ half_bytes (second_half l)
    unfolding link_bytes
    differing_bytes = rw (ne_eqb _ _ d)

    pub differing_long : length (link_bytes l) ≡ 10
    differing_long = rw (link_long, ne_eqb _ _ d)
