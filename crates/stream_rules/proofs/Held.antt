-- A topology that holds what has been listed and zeros behind it: its counts, and what a store at the first unused slot makes of it.
-- Assumes nothing.
use Prim.Native.Nat.{ℕ, suc, ◌+◌, ◌-◌, ◌≤◌, ◌<◌}
use mathlib.Core.List.{List, [], ◌∷◌, ◌++◌}
use mathlib.Core.Path.{◌≡◌, ap, sym, ◌∙◌}
use native.Mathlib.Omega.{arith}
use lib.ListN.{length, set, replicate, length-append, length-replicate}
use lib.Seq.{take-append_seam, set-append_seam, append_snoc}
use Rattle.topology_types.specs.declared.Link.{Link}
use Rattle.topology_types.specs.declared.Topology.{Topology}
use Rattle.topology_types.specs.Limits.{most_routers, most_links}
use Rattle.topology_types.specs.Topology.{Contents, no_link, padded, contents, held}
use Rattle.stream_rules.specs.Reading.{with_router, with_link, with_limit}
use Rattle.stream_rules.specs.Inner.{WhileRead}

-- what a topology holds is what was put in
pub contents_held : (c : Contents) → contents (held c) ≡ c
unfolding contents held padded
contents_held c = λ i.
    record {
      ids = take-append_seam c.ids (replicate (most_routers - length c.ids) 0) i;
      links = take-append_seam c.links (replicate (most_links - length c.links) no_link) i;
      limit = c.limit;
    }

pub padded_length : {A : Type 0} (z : A) (slots : ℕ) (xs : List A) → length xs ≤ slots → length (padded z slots xs) ≡ slots
unfolding padded
padded_length z slots xs fit = simp (length-append, length-replicate) (omega arith)

-- one element more goes where the first of the zeros stood
pub store_padded : {A : Type 0} (z : A) (n : ℕ) (xs : List A) (x : A) → length xs < n →
    set (padded z n xs) (length xs) x ≡ padded z n (xs ++ (x ∷ []))
unfolding padded
store_padded z n xs x h =
    let left : n - length xs ≡ suc (n - length (xs ++ (x ∷ []))) = simp length-append (omega arith) in
    rw left (set-append_seam xs z _ x ∙ sym (append_snoc xs x _))

-- a topology with a router, or a link, stored in the first unused slot, or with another limit
abbrev pub with-router : ℕ → Topology → Topology
with-router id t = record { routers = t.routers + 1; links = t.links; limit = t.limit; id = set t.id t.routers id; link = t.link }

abbrev pub with-link : Link → Topology → Topology
with-link l t = record { routers = t.routers; links = t.links + 1; limit = t.limit; id = t.id; link = set t.link t.links l }

abbrev pub with-limit : ℕ → Topology → Topology
with-limit k t = record { routers = t.routers; links = t.links; limit = k; id = t.id; link = t.link }

router_held : (c : Contents) (id : ℕ) → length c.ids < most_routers → with-router id (held c) ≡ held (with_router c id)
unfolding held with_router
router_held c id h =
    let more : length c.ids + 1 ≡ length (c.ids ++ (id ∷ [])) = simp length-append in
    let stored = store_padded 0 most_routers c.ids id h in
    λ i.
    record { routers = more i; links = length c.links; limit = c.limit; id = stored i; link = padded no_link most_links c.links }

link_held : (c : Contents) (l : Link) → length c.links < most_links → with-link l (held c) ≡ held (with_link c l)
unfolding held with_link
link_held c l h =
    let more : length c.links + 1 ≡ length (c.links ++ (l ∷ [])) = simp length-append in
    let stored = store_padded no_link most_links c.links l h in
    λ i. record { routers = length c.ids; links = more i; limit = c.limit; id = padded 0 most_routers c.ids; link = stored i }

-- what is listed lies in the slots as `held` has it, so that the code's store lists one more
module _ (t : Topology) (listed : WhileRead t) where
  pub routers_held : t.routers ≡ length (contents t).ids
  unfolding held
  routers_held = ap (λ (s : Topology). s.routers) listed.whole

  pub links_held : t.links ≡ length (contents t).links
  unfolding held
  links_held = ap (λ (s : Topology). s.links) listed.whole

  pub router_added : (id : ℕ) → t.routers < most_routers → with-router id t ≡ held (with_router (contents t) id)
  router_added id h = ap (with-router id) listed.whole ∙ router_held (contents t) id (omega (arith, routers_held))

  pub link_added : (l : Link) → t.links < most_links → with-link l t ≡ held (with_link (contents t) l)
  link_added l h = ap (with-link l) listed.whole ∙ link_held (contents t) l (omega (arith, links_held))

  pub limit_added : (k : ℕ) → with-limit k t ≡ held (with_limit (contents t) k)
  unfolding held with_limit
  limit_added k = ap (with-limit k) listed.whole
