-- Placing goes by what is selected at each split, and two lists that go by what is selected behind the same routers go on alike.
-- Assumes nothing.
use Prim.Native.Nat.{ℕ, zero, suc}
use mathlib.Core.List.{List, [], ◌∷◌, ◌++◌, append-nil}
use mathlib.Core.Option.{Option, none, some, none-ne-some, some-injective}
use mathlib.Core.Path.{◌≡◌, refl, sym, ◌∙◌, ap₂, subst}
use lib.Seq.{append_snoc}
use Rattle.network.specs.Network.{Network}
use Rattle.network.specs.Distance.{distances}
use Rattle.network.specs.Order.{Mode, select, continued, placing}
use Rattle.network.proofs.Splits.{Splits, no_more, one_more, head_of, tail_of}

module _ (n : Network) (d : ℕ) (mode : Mode) where
  -- u is the one selected behind `placed`
  abbrev pub Next : List ℕ → ℕ → Type 0
  Next placed u = select n (distances n d) mode placed ≡ some u

  pub placing_next : (left : ℕ) (placed : List ℕ) → Splits Next placed (placing n (distances n d) mode left placed)
  unfolding placing continued
  placing_next zero placed = no_more Next placed
  placing_next (suc left) placed = step (select n (distances n d) mode placed) refl (λ w. placing_next left (placed ++ (w ∷ [])))
    where
      more : ℕ → List ℕ
      more w = placing n (distances n d) mode left (placed ++ (w ∷ []))

      step : (o : Option ℕ) → select n (distances n d) mode placed ≡ o → ((w : ℕ) → Splits Next (placed ++ (w ∷ [])) (more w)) →
          Splits Next placed (continued o more)
      step none e rest = no_more Next placed
      step (some w) e rest = one_more Next placed w (more w) e (rest w)

  -- two lists that go by what is selected behind `placed`, with nobody left to select behind either, are one
  pub alike : (placed xs ys : List ℕ) → Splits Next placed xs → Splits Next placed ys → select n (distances n d) mode (placed ++ xs) ≡ none →
      select n (distances n d) mode (placed ++ ys) ≡ none → xs ≡ ys
  alike placed [] [] h k e f = refl
  alike placed [] (y ∷ ys) h k e f = absurd (none-ne-some y (sym (rw append-nil at e) ∙ head_of Next placed y ys k))
  alike placed (x ∷ xs) [] h k e f = absurd (none-ne-some x (sym (rw append-nil at f) ∙ head_of Next placed x xs h))
  alike placed (x ∷ xs) (y ∷ ys) h k e f =
      let same : x ≡ y = some-injective x y (sym (head_of Next placed x xs h) ∙ head_of Next placed y ys k) in
      ap₂ ◌∷◌ same
      (alike (placed ++ (x ∷ [])) xs ys (tail_of Next placed x xs h)
      (tail_of Next placed x ys (subst (λ (w : ℕ). Splits Next placed (w ∷ ys)) (sym same) k)) (rw append_snoc e) (rw (append_snoc, same) f))
