-- A sub-TLV more at the end is the last of its case, and leaves the last of the other cases.
-- Assumes nothing.
use Prim.Native.Nat.{ℕ}
use mathlib.Core.Bool.{Bool, true, false, true≢false, false≢true}
use mathlib.Core.List.Memᴰ
use mathlib.Core.List.{List, [], ◌∷◌, ◌++◌, append_assoc, Memᴰ}
use mathlib.Core.List.{head-eq_of_cons-eq, tail-eq_of_cons-eq}
use mathlib.Core.Logic.{◌≢◌, ⊎_elim}
use mathlib.Core.Path.{◌≡◌, refl, sym, ap, subst, ◌∙◌}
use native.Mathlib.Omega.{arith}
use Rattle.te.specs.declared.SubTlv.{SubTlv}
use Rattle.te.specs.declared.SubTlv.TheVariants.{TeMetric, MaxBandwidth, Reservable}
use Rattle.te.specs.declared.LinkRecord.{LinkRecord}
use Rattle.te.specs.Cost.{nothing, gathered}
use Rattle.te.specs.Theorems.{LastOf, NoneOf, FieldOf, RecordOf}

-- which of the three cases
abbrev kind : SubTlv → ℕ
kind (TeMetric n) = 5
kind (MaxBandwidth x) = 6
kind (Reservable x) = 7

module _ {A : Type 0} (make : A → SubTlv) where
  newest : (subs : List SubTlv) (a : A) → LastOf make (subs ++ (make a ∷ [])) a
  newest subs a = record { before = subs; after = []; stands = refl; none_after = λ b m. Memᴰ.not-nil m }

  module _ (t : SubTlv) (other : (a : A) → make a ≡ t → ⊥) where
    still_none : {subs : List SubTlv} → NoneOf make subs → NoneOf make (subs ++ (t ∷ []))
    still_none {subs} none a m =
        ⊎_elim (none a) (λ n. ⊎_elim (other a) (λ k. Memᴰ.not-nil k) (Memᴰ.cases_cons n)) (Memᴰ.append_cases subs m)

    still_last : {subs : List SubTlv} {a : A} → LastOf make subs a → LastOf make (subs ++ (t ∷ [])) a
    still_last l = record {
      before = l.before;
      after = l.after ++ (t ∷ []);
      stands = ap (λ (s : List SubTlv). s ++ (t ∷ [])) l.stands ∙ append_assoc l.before (_ ∷ l.after) (t ∷ []);
      none_after = still_none l.none_after;
    }

  pub stands_there : {subs : List SubTlv} {a : A} → LastOf make subs a → Memᴰ (make a) subs
  stands_there l = subst (Memᴰ _) (sym l.stands) (Memᴰ.append_right l.before (Memᴰ.head refl))

-- there is one last
one_last : (xs ys zs ws : List SubTlv) (p q : SubTlv) → xs ++ (p ∷ ys) ≡ zs ++ (q ∷ ws) → (Memᴰ p ws → ⊥) → (Memᴰ q ys → ⊥) → p ≡ q
one_last [] ys [] ws p q e f g = head-eq_of_cons-eq e
one_last [] ys (z ∷ zs) ws p q e f g = absurd (g (subst (Memᴰ q) (sym (tail-eq_of_cons-eq e)) (Memᴰ.append_right zs (Memᴰ.head refl))))
one_last (x ∷ xs) ys [] ws p q e f g = absurd (f (subst (Memᴰ p) (tail-eq_of_cons-eq e) (Memᴰ.append_right xs (Memᴰ.head refl))))
one_last (x ∷ xs) ys (z ∷ zs) ws p q e f g = one_last xs ys zs ws p q (tail-eq_of_cons-eq e) f g

-- and so one last metric
pub one_metric : {subs : List SubTlv} {m n : ℕ} → LastOf TeMetric subs m → LastOf TeMetric subs n → m ≡ n
one_metric {subs} {m} {n} k l =
    ap number
    (one_last k.before k.after l.before l.after (TeMetric m) (TeMetric n) (sym k.stands ∙ l.stands) (l.none_after m) (k.none_after n))
  where
    number : SubTlv → ℕ
    number (TeMetric n) = n
    number (MaxBandwidth x) = 0
    number (Reservable x) = 0

module _ {A : Type 0} (make : A → SubTlv) (zero : A) where
  none_yet : FieldOf make zero [] false zero
  none_yet = record { present = λ e. absurd (false≢true e); absent = λ e. (λ a m. Memᴰ.not-nil m, refl) }

  renewed : (subs : List SubTlv) (a : A) → FieldOf make zero (subs ++ (make a ∷ [])) true a
  renewed subs a = record { present = λ e. newest make subs a; absent = λ e. absurd (true≢false e) }

  -- where the last is, the field is present
  pub is_there : {subs : List SubTlv} {has : Bool} {a b : A} → FieldOf make zero subs has a → LastOf make subs b → has ≡ true
  is_there {has = true} f l = refl
  is_there {has = false} {b = b} f l = absurd ((f.absent refl).0 b (stands_there make l))

  -- a sub-TLV of another case
  left : {subs : List SubTlv} {has : Bool} {a : A} → FieldOf make zero subs has a → (t : SubTlv) → ((b : A) → kind (make b) ≢ kind t) →
      FieldOf make zero (subs ++ (t ∷ [])) has a
  left f t other =
      let differ : (b : A) → make b ≡ t → ⊥ = λ b e. other b (ap kind e) in
      record {
        present = λ e. still_last make t differ (f.present e);
        absent = λ e. (still_none make t differ (f.absent e).0, (f.absent e).1);
      }

pub record_none : RecordOf [] nothing
unfolding nothing
record_none = record { metric = none_yet TeMetric 0; maximum = none_yet MaxBandwidth _; reservable = none_yet Reservable _ }

pub record_more : {subs : List SubTlv} {r : LinkRecord} → RecordOf subs r → (t : SubTlv) → RecordOf (subs ++ (t ∷ [])) (gathered r t)
unfolding gathered
record_more {subs} p (TeMetric n) = record {
  metric = renewed TeMetric 0 subs n;
  maximum = left MaxBandwidth _ p.maximum (TeMetric n) (λ b e. omega arith);
  reservable = left Reservable _ p.reservable (TeMetric n) (λ b e. omega arith);
}
record_more {subs} p (MaxBandwidth x) = record {
  metric = left TeMetric 0 p.metric (MaxBandwidth x) (λ b e. omega arith);
  maximum = renewed MaxBandwidth _ subs x;
  reservable = left Reservable _ p.reservable (MaxBandwidth x) (λ b e. omega arith);
}
record_more {subs} p (Reservable x) = record {
  metric = left TeMetric 0 p.metric (Reservable x) (λ b e. omega arith);
  maximum = left MaxBandwidth _ p.maximum (Reservable x) (λ b e. omega arith);
  reservable = renewed Reservable _ subs x;
}
