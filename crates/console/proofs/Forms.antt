-- The first form of a line is that of the code's table, and what its fields hold is what the line asks.
-- Assumes nothing.
use Rattle.std.proofs.Common.{◌≡◌, ℕ, Bool, true, false, cond, List, [], ◌∷◌, map, length, Option, Some, None, refl, find, ap, ◌∙◌, Bor}
use Rattle.std.proofs.lemmas.List.{length-map}
use Rattle.console_held.specs.declared.unchecked.kind.Kind.{Kind}
use Rattle.console_held.specs.Questions.{Question}
use Rattle.console_held.specs.Requests.{Held, no_request}
use Rattle.console_held.specs.Inner.{letters}
use Rattle.console.specs.declared.requests.Form.{Form}
use Rattle.console.specs.Answers as said
use Rattle.console.specs.Answers.{form, no_form, form_for, answer_asked}
use Rattle.console.specs.Inner.{has, FirstFound, form_in, form_said}

letters_kept : (kinds : List Kind) → length (letters kinds) ≡ length kinds
unfolding letters
letters_kept kinds = simp length-map

said_of : Option Form → said.Form
said_of None = no_form
said_of (Some f) = form_in f

first_of : (fs : List Form) (line : List ℕ) → said_of (find (has line) fs) ≡ form_for (map form_in fs) line
unfolding said_of form_for form_in form
first_of [] line = refl
first_of (f ∷ fs) line = rw (letters_kept f.kinds.now) (cases (has line f) (first_of fs line))
  where
    cases : (b : Bool) → said_of (find (has line) fs) ≡ form_for (map form_in fs) line →
        said_of (cond b (Some f) (find (has line) fs)) ≡ cond b (form_in f) (form_for (map form_in fs) line)
    cases true e = refl
    cases false e = e

-- the first form of a line, of these
pub first_found : {fs : List Form} {line : List ℕ} (r : Option (Bor Form)) → FirstFound line fs r → form_said r ≡ form_for (map form_in fs) line
unfolding said_of form_said
first_found {fs} {line} None e = ap said_of e.found ∙ first_of fs line
first_found {fs} {line} (Some f) e = ap said_of e.found ∙ first_of fs line

-- a line that has no form
pub asks_nothing : (h : Held) (o : Option Question) → answer_asked no_form.answer h o ≡ no_request h
unfolding answer_asked no_form form
asks_nothing h None = refl
asks_nothing h (Some q) = refl
