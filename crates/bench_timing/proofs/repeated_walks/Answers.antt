-- A sound topology has 1 to 64 routers and at most 256 links.
-- Assumes nothing.
use Rattle.std.proofs.Common.{ℕ, arith, T, rules, sym, ◌≤◌, ◌*◌, ◌-◌}
use Rattle.std.proofs.Math.Nat.{mul-le-mul}
use Rattle.topology_sound.specs.Sound.{sound}
use Rattle.topology_sound.proofs.Sound.{sound_exact}
use Rattle.bench_timing.proofs.repeated_walks.Goals as goal

-- a product of what is at most ten
at_most_ten : (a b most : ℕ) → a ≤ 10 → b ≤ most → a * b ≤ 10 * most
at_most_ten a b most few less = mul-le-mul few less

pub overflow_sub-t : goal.overflow_sub-t
overflow_sub-t c =
    let good : T (sound c.args.t) = search rules in
    omega (arith, ((sound_exact _).0 good).routers_least)

pub overflow_mul-rows : goal.overflow_mul-rows
overflow_mul-rows c =
    let good : T (sound c.args.t) = search rules in
    let most : c.args.t.routers ≤ 64 = ((sound_exact _).0 good).routers_most in
    omega (arith, at_most_ten c.args.rows (c.args.t.routers - 1) 63 c.requires (omega arith))

pub put_schedule-end-requires : goal.put_schedule-end-requires
put_schedule-end-requires c =
    let good : T (sound c.args.t) = search rules in
    let most : c.args.t.routers ≤ 64 = ((sound_exact _).0 good).routers_most in
    (omega (arith, at_most_ten c.args.rows (c.args.t.routers - 1) 63 c.requires (omega arith)), ((sound_exact _).0 good).links_most, sym c.filled-schedule.ensures.long)

pub repeated-requires-clause-may : goal.repeated-requires-clause-may
repeated-requires-clause-may c =
    let good : T (sound c.args.t) = search rules in
    let most : c.args.t.routers ≤ 64 = ((sound_exact _).0 good).routers_most in
    search rules
