-- What the definitions mean: each is read off its clauses. A hop or a walk is done exactly where it is done with what forwarding by the table makes.
-- Assumes nothing.
use Prim.Native.Nat.{ℕ, pred, ◌*◌, ◌/◌}
use mathlib.Core.List.{map}
use mathlib.Core.Path.{refl, sym, ap, ◌∙◌}
use native.Mathlib.Nat.{mul-zero, mul-div_cancel}
use native.Mathlib.Omega.{arith}
use borrow.Author.Tests.{ne_eqb}
use lib.ListN.{length, drop, length-drop}
use lib.Seq.{length-take-le, get_or-take, get_or-drop}
use Rattle.network.specs.Lists.{below}
use Rattle.network.specs.Forwarding.{start, hop, walk}
use Rattle.topology_types.specs.Outcome.{turned_away}
use Rattle.table.specs.Calls.{unless_refused}
use Rattle.forwarding_rules.specs.Schedule.{row_in, rows_in}
use Rattle.forwarding_rules.specs.Calls.{said, packet_in, hop_in, walk_in, says, by, counting_hops}
use Rattle.forwarding_rules.specs.Theorems.{AnswersMean, RowsRight, EmptyWithoutLinks, RowsInTurn, CountRefuses, HopsDone, WalksDone}
use Rattle.forwarding_rules.proofs.Schedules.{count, counted, counts, least_count}
use Rattle.forwarding_rules.proofs.Answers as answers

pub answers_mean : AnswersMean
unfolding said packet_in hop_in walk_in says
answers_mean =
    record {
      packets = λ p. record { packet = refl; setting_set = refl; hop_moved = refl; walk_delivered = refl; walk_dropped = refl };
      hop_delivered = refl;
      hop_dropped = refl;
      refusals = λ r. record { setting_refused = refl; hop_refused = refl; walk_refused = refl };
      said_done = λ x. refl;
      said_refused = λ A number at. refl;
    }

pub rows_right : RowsRight
unfolding row_in
rows_right links schedule h =
    record {
      long = λ fits. length-take-le links (drop (h * links) schedule) (omega (arith, length-drop (h * links) schedule));
      bytes = λ i l. get_or-take links (drop (h * links) schedule) i 0 l ∙ get_or-drop (h * links) schedule i 0;
    }

-- with links a length has one number of rows
pub rows_in_turn : RowsInTurn
unfolding rows_in
rows_in_turn routers links k schedule some e enough =
    let (whole, least) = counted routers links (length schedule) (counts routers links (length schedule) k (sym e) enough) in
    let many = count routers links (length schedule) in
    ap (λ (n : ℕ). map (row_in links schedule) (below n))
    (sym (mul-div_cancel many some) ∙ ap (λ (n : ℕ). n / links) (whole ∙ e) ∙ mul-div_cancel k some)

pub empty_without_links : EmptyWithoutLinks
unfolding rows_in row_in
empty_without_links routers =
    record {
      empty = λ long. (
        λ s. sym (counted routers 0 long s).0 ∙ mul-zero (count routers 0 long),
        λ e. counts routers 0 long (pred routers) (mul-zero (pred routers) ∙ sym e) (omega arith),
      );
      rows = rw (rw mul-zero at (least_count routers 0));
    }

pub count_refuses : CountRefuses
unfolding counting_hops unless_refused turned_away
count_refuses t table buffer number at other e = rw (e, ne_eqb number 0 other)

pub hops_done : HopsDone
hops_done t table states p = (
  λ (h, e).
      let (s, (right, (long, (small, same)))) = (answers.hops_done t table states p h).0 e in
      (s, right, record { long = long; states_are = small }),
  λ (s, right, ok).
      let made = hop (by t table) states p in
      (made, (answers.hops_done t table states p made).1 (s, (right, (ok.long, (ok.states_are, refl))))),
)

pub walks_done : WalksDone
walks_done t table u schedule = (
  λ (w, e).
      let (good, (place, (right, (whole, (small, same))))) = (answers.walks_done t table u schedule w).0 e in
      (good, place, right, record { whole_rows = whole; states_are = small }),
  λ (good, place, right, ok).
      let made = walk (by t table) (rows_in t.routers t.links schedule) (start u) in
      (made, (answers.walks_done t table u schedule made).1 (good, (place, (right, (ok.whole_rows, (ok.states_are, refl)))))),
)
