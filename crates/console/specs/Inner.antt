-- What the code's structs stand for, and what its functions leave.
-- Assumes nothing.
use Rattle.std.specs.Prelude.{ℕ, ◌≤◌, List, ◌≡◌, length, take, Bool, Option, Some, None, option_map, find}
use Rattle.std.specs.Borrow.{Bor}
use Rattle.text.specs.Fields.{asks}
use Rattle.console.specs.declared.requests.Form.{Form}
use Rattle.console.specs.declared.requests.Request.{Request}
use Rattle.console.specs.declared.requests.Request.TheVariants.{Changes, Replies}
use Rattle.console_held.specs.declared.unchecked.query.Query.{Query}
use Rattle.console_held.specs.Questions.{most_line, Question}
use Rattle.console_held.specs.Requests.{Held, Answered, no_request}
use Rattle.console_held.specs.Inner.{letters, question_in, change_to}
use Rattle.console_replies.specs.Inner.{reply_to}
use Rattle.console.specs.Answers as said
use Rattle.console.specs.Answers.{no_form, leaving}
use Rattle.console.specs.Session.{Line, some, too_long}

-- what each request answers, with what is held and what is asked
unfoldable pub answer_to : Request → Held → Question → Answered
answer_to (Changes c) = change_to c
answer_to (Replies c) = leaving (reply_to c)

-- a form of the code
unfoldable pub form_in : Form → said.Form
form_in f = said.form f.word.now (letters f.kinds.now) (answer_to f.request)

-- whether a line has it
abbrev pub has : List ℕ → Form → Bool
has line f = asks f.word.now (length f.kinds.now) line

-- The first of these that a line has was found.
pub record FirstFound (line : List ℕ) (forms : List Form) (r : Option (Bor Form)) : Type 0 where
  pub found : option_map (λ f. f.now) r ≡ find (has line) forms

-- the form of no request, where there is none
unfoldable pub form_said : Option (Bor Form) → said.Form
form_said None = no_form
form_said (Some f) = form_in f.now

-- what is asked answers so
unfoldable pub asked_answer : Option (Request × Query) → Held → Answered
asked_answer None h = no_request h
asked_answer (Some a) h = answer_to a.0 h (question_in a.1)

-- A line was answered: what it leaves is held, and the line that answers stands at the start of a lent buffer.
pub record Told (a : Answered) (h : Held) (n : ℕ) (buffer : List ℕ) : Type 0 where
  pub held : h ≡ a.held
  pub within : n ≤ length buffer
  pub text : take n buffer ≡ a.text

-- the line of which so many bytes have come, in the buffer, unless it is too long
unfoldable pub line_gathered : List ℕ → Option ℕ → Line
line_gathered buffer None = too_long
line_gathered buffer (Some n) = some (take n buffer)

-- the line, unless it is too long
unfoldable pub line_given : Option (Bor (List ℕ)) → Line
line_given None = too_long
line_given (Some bytes) = some bytes.now

-- at most as many as a line may have
abbrev pub InLine : Option ℕ → Type 0
InLine None = Unit {0}
InLine (Some n) = n ≤ most_line
