-- A hop by whether the packet is at home and what is chosen; walks and routes, hop by hop.
-- Assumes nothing.
use Prim.Native.Nat.{ℕ, suc, ◌+◌}
use mathlib.Core.Bool.{Bool, true, false}
use mathlib.Core.List.{List, [], ◌∷◌}
use mathlib.Core.Logic.{◌↔◌, ◌≢◌, ⊎_elim}
use mathlib.Core.Option.{Option, none, some}
use mathlib.Core.Path.{◌≡◌, refl, sym, ◌∙◌, ap}
use native.Mathlib.Nat.{add-zero}
use native.Mathlib.Omega.{arith}
use lib.Dec.{T}
use lib.ListN.{length}
use Rattle.network.specs.Forwarding.{Forwarding, Packet, Hop, delivered, moved, dropped, unfinished_at, packet_of, hop_to, hop, walk_on}
use Rattle.network.specs.Forwarding.{walk_end, walk, route_on, route, end_of}
use Rattle.network.specs.Theorems.Forwarding.{HopChosen, HopsChosen, WalksByHops, RoutesByHops, RoutesWalked}
use Rattle.network.proofs.Tests.{as_true, as_false}

-- what a hop answers, and why
pub data Hopped (f : Forwarding) (x : f.States) (p : Packet f.State) : Hop f.State → Type 0 where
  stays_home : T (f.home p.station) → Hopped f x p delivered
  stuck : (T (f.home p.station) → ⊥) → f.choose x p.station ≡ none → Hopped f x p dropped
  went : (T (f.home p.station) → ⊥) → (e : f.Entry) → f.choose x p.station ≡ some e → Hopped f x p (moved (record { station = f.next e; hops = suc p.hops }))

pub hopped : (f : Forwarding) (x : f.States) (p : Packet f.State) → Hopped f x p (hop f x p)
unfolding hop hop_to
hopped f x p = go (f.home p.station) refl (f.choose x p.station) refl
  where
    go : (b : Bool) → f.home p.station ≡ b → (c : Option f.Entry) → f.choose x p.station ≡ c → Hopped f x p (hop_to f p b c)
    go true h c e = stays_home (rw h tt)
    go false h none e = stuck (λ t. rw h at t) e
    go false h (some y) e = went (λ t. rw h at t) y e

pub clash : {A : Type 0} → ◌≡◌ {A = ℕ} 0 1 → A
clash e = absurd (omega arith)

pub hops_chosen : HopsChosen
hops_chosen f x p = go (hopped f x p)
  where
    Says : Hop f.State → Type 0
    Says o =
        ((o ≡ delivered) ↔ T (f.home p.station))
        × ((o ≡ dropped) ↔ ((T (f.home p.station) → ⊥) × (f.choose x p.station ≡ none)))
        × ((q : Packet f.State) → (o ≡ moved q) ↔ ((T (f.home p.station) → ⊥)
        × ((e : f.Entry) × (f.choose x p.station ≡ some e) × (q ≡ record { station = f.next e; hops = suc p.hops }))))

    says : {o : Hop f.State} → Hopped f x p o → Says o
    says (stays_home h) =
        ((λ e. h, λ t. refl), (λ e. clash (cc), λ (o, c). absurd (o h)), λ q. (λ e. clash (cc), λ (o, r). absurd (o h)))
    says (stuck o c) =
        ((λ e. clash (cc), λ t. absurd (o t)), (λ e. (o, c), λ r. refl), λ q. (λ e. clash (cc), λ (o', (e, k, s)). clash (cc)))
    says (went o e c) = (
      (λ i. clash (cc), λ t. absurd (o t)),
      (λ i. clash (cc), λ (o', k). clash (cc)),
      λ q. (λ i. (o, (e, c, (cc))), λ (o', (y, k, s)). (cc)),
    )

    go : Hopped f x p (hop f x p) → HopChosen f x p
    go h = let (a, b, c) = says h in record { delivers = a; drops = b; moves = c }

-- where no row of states is left the packet stays as it is
pub stays : {S E : Type 0} (p : Packet S) (b : Bool) (es : List E) → packet_of (walk_end p b es) ≡ p
unfolding walk_end packet_of
stays p true es = refl
stays p false [] = refl
stays p false (e ∷ es) = refl

pub walks_by_hops : WalksByHops
unfolding walk walk_on walk_end
walks_by_hops f x xs p =
    record {
      delivers = ap (λ (o : Hop f.State). walk_on p o (walk f xs));
      drops = ap (λ (o : Hop f.State). walk_on p o (walk f xs));
      goes_on = λ q. ap (λ (o : Hop f.State). walk_on p o (walk f xs));
      arrives = λ t. rw (as_true (f.home p.station) t);
      drops_out = λ o none_there. rw (as_false (f.home p.station) o, none_there);
      runs_out = λ o some-there. rw (as_false (f.home p.station) o) (unfinished (f.row p.station) some-there);
    }
  where
    unfinished : (es : List f.Entry) → es ≢ [] → walk_end p false es ≡ unfinished_at p
    unfinished [] some-there = absurd (some-there refl)
    unfinished (e ∷ es) some-there = refl

pub routes_by_hops : RoutesByHops
unfolding route route_on
routes_by_hops f x xs p =
    let c = hops_chosen f x p in
    record {
      stops = λ h. ⊎_elim (λ e. rw (as_true (f.home p.station) (c.delivers.0 e))) (λ e. off (c.drops.0 e)) h;
      goes_on = λ q e. on q ((c.moves q).0 e);
      ends = refl;
    }
  where
    off : ((T (f.home p.station) → ⊥) × (f.choose x p.station ≡ none)) → route f (x ∷ xs) p.station ≡ []
    off (o, k) = rw (as_false (f.home p.station) o, k)

    on : (q : Packet f.State) → ((T (f.home p.station) → ⊥)
        × ((e : f.Entry) × (f.choose x p.station ≡ some e) × (q ≡ record { station = f.next e; hops = suc p.hops }))) →
        (e : f.Entry) × (f.choose x p.station ≡ some e) × (f.next e ≡ q.station) × (route f (x ∷ xs) p.station ≡ e ∷ route f xs q.station)
    on q (o, (e, k, s)) =
        let same : f.next e ≡ q.station = ap (λ (r : Packet f.State). r.station) (sym s) in
        (e, k, same, rw (as_false (f.home p.station) o, k) (ap (λ (t : f.State). e ∷ route f xs t) same))

pub routes_walked : RoutesWalked
unfolding walk walk_end walk_on hop hop_to packet_of route route_on end_of
routes_walked f [] p = rw (stays p (f.home p.station) (f.row p.station), add-zero)
routes_walked f (x ∷ xs) p = go (f.home p.station) (f.choose x p.station) (routes_walked f xs)
  where
    go : (b : Bool) (c : Option f.Entry) →
        ((q : Packet f.State) → packet_of (walk f xs q)
        ≡ record { station = end_of f q.station (route f xs q.station); hops = q.hops + length (route f xs q.station) }) →
        packet_of (walk_on p (hop_to f p b c) (walk f xs))
        ≡ record { station = end_of f p.station (route_on f b c (route f xs)); hops = p.hops + length (route_on f b c (route f xs)) }
    go true c rest = rw add-zero
    go false none rest = rw add-zero
    go false (some e) rest = rest _ ∙ ap (λ (h : ℕ). record { station = end_of f (f.next e) (route f xs (f.next e)); hops = h }) (omega arith)
