-- The LSAs of a file as the code hands them on, and where the tests of the whole file point.
-- Assumes nothing.
use Rattle.std.specs.Prelude.{ℕ, ◌≡◌, ◌<◌, List, length, Option, Result, Ok, Err}
use Rattle.std.specs.Option.{option_map}
use Rattle.std.specs.List.{find}
use Rattle.topology_types.specs.declared.Fault.TheVariants.{MalformedLsa}
use Rattle.topology_types.specs.declared.Refusal.{Refusal}
use Rattle.ospf_lsas.specs.Lsa.{RouterLink, links_in, all_of, Lsa, wrong_sum, lsas_from, first_malformed_lem}
use Rattle.ospf_lsas.specs.declared.Lsa as code
use Rattle.ospf_lsas.specs.declared.RouterLink as link
use Rattle.ospf_lsas.specs.declared.RouterLinks.{RouterLinks}
use Rattle.ospf_lsas.specs.declared.Lsas.{Lsas}

-- an LSA that is handed on
abbrev pub lsa_seen : code.Lsa → Lsa
lsa_seen l = record { at = l.at; bytes = l.bytes.now }

-- those that are left
abbrev pub lsas_left : Lsas → List Lsa
lsas_left l = lsas_from l.at 0 l.rest.now

-- a link that is handed on
abbrev pub link_seen : link.RouterLink → RouterLink
link_seen l = record { id = l.id; kind = l.kind; metric = l.metric }

-- those that are left
abbrev pub links_left : RouterLinks → List RouterLink
links_left l = all_of (links_in l.left l.rest.now)

-- 02, #106, 26: the LSAs of a file, all of them, none of which is malformed; or a refusal, at the first that is
abbrev pub Opens : List ℕ → Result Lsas Refusal → Type 0
Opens file (Ok l) = (l.at ≡ 0) × (l.rest.now ≡ file) × (first_malformed_lem file ≡ length file)
Opens file (Err r) = (r.fault ≡ MalformedLsa) × (r.at ≡ first_malformed_lem file) × (r.at < length file)

-- 02, #106, 27: where the first begins that has a wrong sum
abbrev pub first_wrong : Lsas → Option ℕ
first_wrong l = option_map (λ l. l.at) (find (λ l. wrong_sum l.bytes) (lsas_left l))
