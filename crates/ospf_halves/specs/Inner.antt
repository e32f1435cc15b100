-- What the inner functions promise (02, #106): what one link more gives.
-- Assumes nothing.
use Rattle.std.specs.Prelude.{ℕ, cond, List, Option, Some, None, eqb}
use Rattle.std.specs.List.{position}
use Rattle.network.specs.Lists.{any}
use Rattle.topology_types.specs.declared.Half.{Half}
use Rattle.ospf_lsas.specs.Lsa.{RouterLink}

-- a place, unless one of the halves leads there
abbrev pub not_led_to : List Half → Option ℕ → Option ℕ
not_led_to halves None = None
not_led_to halves (Some to) = cond (any (λ h. eqb h.to.0 to) halves) None (Some to)

-- the place of the router that a link leads to, if it is of type 1, the router has a place, and none of the halves leads there
abbrev pub new_place_lem : List ℕ → List Half → RouterLink → Option ℕ
new_place_lem ids halves l = cond (eqb l.kind 1) (not_led_to halves (position (λ i. eqb i l.id) ids)) None
