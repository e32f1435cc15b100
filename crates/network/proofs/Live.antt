-- The first live entry: it is the one before which every link is down; with one link up alone, the entry over that link is chosen.
-- Assumes nothing.
use Prim.Native.Nat.{ℕ, ◌<◌}
use mathlib.Core.Bool.{Bool, true, false, cond}
use mathlib.Core.List.Memᴰ
use mathlib.Core.List.{List, [], ◌∷◌, ◌++◌, Memᴰ, map}
use mathlib.Core.List.{append-nil}
use mathlib.Core.Logic.{◌≢◌, ◌⊎◌, inl, inr, ⊎_elim}
use mathlib.Core.Option.{none, some, none-ne-some, some-injective}
use mathlib.Core.Path.{◌≡◌, refl, sym, ◌∙◌, ap, subst}
use native.Mathlib.Decide.{ℕ_discrete}
use native.Mathlib.Omega.{arith}
use borrow.Author.Tests.{eq-eqb, ne_eqb}
use lib.Dec.{T, eqb, leb, eqb→eq}
use lib.ListN.{length, get_or}
use Rattle.network.specs.Lists.{below, every, Pairwise}
use Rattle.network.specs.Network.{Arc, Network}
use Rattle.network.specs.Routing.{up, valid_states, first_live}
use Rattle.network.specs.Theorems.Routing.{Up, AllDown, FirstLive}
use Rattle.network.proofs.Tests.{and, passes, fails, eq_test}
use Rattle.network.proofs.Lists.{split, pairwise_split}
use Rattle.network.proofs.Below.{get_d_below, length_map_below}

module _ (states : List ℕ) where
  pub live_up : (a : Arc) (rest : List Arc) → Up states a.link → first_live states (a ∷ rest) ≡ some a
  unfolding first_live up
  live_up a rest h = passes (up states a.link) (eq_test h) (some a) (first_live states rest)

  live_down : (a : Arc) (rest : List Arc) → (Up states a.link → ⊥) → first_live states (a ∷ rest) ≡ first_live states rest
  unfolding first_live up
  live_down a rest o = fails (up states a.link) (λ t. o (eqb→eq _ _ t)) (some a) (first_live states rest)

  pub live_mem : (entries : List Arc) (a : Arc) → first_live states entries ≡ some a → Memᴰ a entries
  unfolding first_live
  live_mem [] a e = absurd (none-ne-some a e)
  live_mem (b ∷ rest) a e = step (up states b.link) e (live_mem rest a)
    where
      step : (t : Bool) → cond t (some b) (first_live states rest) ≡ some a → (first_live states rest ≡ some a → Memᴰ a rest) → Memᴰ a (b ∷ rest)
      step true e' later = Memᴰ.head (sym (some-injective b a e'))
      step false e' later = Memᴰ.tail (later e')

  -- behind entries whose links are all down nothing changes
  pub live_behind : (before rest : List Arc) → AllDown states before → first_live states (before ++ rest) ≡ first_live states rest
  live_behind [] rest h = refl
  live_behind (b ∷ before) rest h =
      live_down b (before ++ rest) (h b (Memᴰ.head refl)) ∙ live_behind before rest (λ a m. h a (Memᴰ.tail m))

  pub down_none : (entries : List Arc) → AllDown states entries → first_live states entries ≡ none
  unfolding first_live
  down_none entries h = subst (λ (l : List Arc). first_live states l ≡ none) (append-nil entries) (live_behind entries [] h)

  pub first-live : (entries : List Arc) (a : Arc) → FirstLive states entries a → first_live states entries ≡ some a
  first-live entries a f =
      ap (first_live states) f.stands ∙ live_behind f.before (a ∷ f.after) f.down ∙ live_up a f.after f.live

  -- every link is down, or one is the first that is up
  pub down_or_live : (entries : List Arc) → AllDown states entries ⊎ ((a : Arc) × FirstLive states entries a)
  down_or_live [] = inl (λ a m t. Memᴰ.not-nil m)
  down_or_live (b ∷ rest) = step (ℕ_discrete (get_or states b.link 0) 1) (down_or_live rest)
    where
      with_head : (Up states b.link → ⊥) → (entries : List Arc) → AllDown states entries → AllDown states (b ∷ entries)
      with_head o entries h a m t =
          ⊎_elim (λ (same : a ≡ b). o (subst (λ (c : Arc). Up states c.link) same t)) (λ k. h a k t) (Memᴰ.cases_cons m)

      step : Dec (Up states b.link) → AllDown states rest ⊎ ((a : Arc) × FirstLive states rest a) →
          AllDown states (b ∷ rest) ⊎ ((a : Arc) × FirstLive states (b ∷ rest) a)
      step (yes s) later = inr (b, record { before = []; after = rest; stands = refl; down = λ a m t. Memᴰ.not-nil m; live = s })
      step (no o) (inl h) = inl (with_head o rest h)
      step (no o) (inr (a, f)) =
          inr (
            a,
            record {
              before = b ∷ f.before;
              after = f.after;
              stands = ap (λ (l : List Arc). b ∷ l) f.stands;
              down = with_head o f.before f.down;
              live = f.live;
            },
          )

  pub none_live : (entries : List Arc) → first_live states entries ≡ none → AllDown states entries
  none_live entries e =
      ⊎_elim (λ h. h) (λ (a, f). absurd (none-ne-some a (sym e ∙ first-live entries a f))) (down_or_live entries)

  -- an entry whose link is up, where the links of the others are down, is the first live one
  pub alone_live : (entries : List Arc) (a : Arc) → Memᴰ a entries → Pairwise (λ b c. b.link ≢ c.link) entries → Up states a.link →
      ((b : Arc) → Memᴰ b entries → b.link ≢ a.link → Up states b.link → ⊥) → first_live states entries ≡ some a
  alone_live entries a m p t others =
      let (before, after, e) = split m in
      let down : AllDown states before =
      λ b k. others b (subst (Memᴰ b) (sym e) (Memᴰ.append_left (a ∷ after) k)) (pairwise_split before a after (subst (Pairwise _) e p) b k) in
      first-live entries a (record { before = before; after = after; stands = e; down = down; live = t })

-- the states with the one link up
pub only_up : Network → ℕ → List ℕ
only_up n link = map (λ k. cond (eqb k link) 1 0) (below n.links)

every_map : (f : ℕ → ℕ) (g : ℕ → Bool) (xs : List ℕ) → ((x : ℕ) → T (g (f x))) → T (every g (map f xs))
every_map f g [] h = tt
every_map f g (x ∷ xs) h = and (g (f x)) (every g (map f xs)) (h x) (every_map f g xs h)

pub only_valid : (n : Network) (link : ℕ) → T (valid_states n (only_up n link))
unfolding valid_states only_up
only_valid n link =
    and (eqb (length (only_up n link)) n.links) _ (eq_test (length_map_below _ n.links))
    (every_map _ (λ b. leb b 1) (below n.links) (λ k. bit (eqb k link)))
  where
    bit : (b : Bool) → T (leb (cond b 1 0) 1)
    bit true = tt
    bit false = tt

pub only-up : (n : Network) (link : ℕ) → link < n.links → Up (only_up n link) link
unfolding only_up
only-up n link h = rw (get_d_below {A = ℕ} (λ k. cond (eqb k link) 1 0) n.links link 0 h, eq-eqb link link refl) refl

pub others_down : (n : Network) (link k : ℕ) → k < n.links → k ≢ link → Up (only_up n link) k → ⊥
unfolding only_up
others_down n link k h apart t =
    let down : ◌≡◌ {A = ℕ} 0 1 = rw (get_d_below {A = ℕ} (λ j. cond (eqb j link) 1 0) n.links k 0 h, ne_eqb k link apart) at t in
    omega arith
