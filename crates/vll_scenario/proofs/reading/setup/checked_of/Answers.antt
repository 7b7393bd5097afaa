use Rattle.std.proofs.Common.{◌≡◌, length, map, drop, reverse, ap, sym, subst, ◌∙◌}
use Rattle.std.specs.List.{All}
use Rattle.std.proofs.lemmas.List.Elements.{All-push}
use Rattle.vll_check.specs.Entry.{Entry}
use Rattle.vll_scenario.specs.Scenario.{first_check_from}
use Rattle.vll_scenario.proofs.Checking.{drop-last, left_of, passes_too, reverse-next, reverse-whole}
use Rattle.vll_scenario.proofs.reading.setup.checked_of.Goals as goal

pub loop-procedure-preserved-in-Continue-1 : goal.loop-procedure-preserved-in-Continue-1
loop-procedure-preserved-in-Continue-1 c =
    let all = c.args.procs in
    let left = c.loop-procedure.procs in
    let rest = drop (length left) all in
    let new = c.pop.new.self in
    let p = c.in-Some.procedure in
    let passed = c.in-Ok.passed in
    let invariant = c.loop-procedure.invariant in
    let next = drop-last all left rest new p invariant.left c.in-Some.ensures in
    let pushed = c.in_ok-push-in-Ok.ensures.items in
    record {
      left = left_of all left rest new p invariant.left c.in-Some.ensures;
      fault = ap (first_check_from c.args.records (length new)) next ∙ passes_too c.args.records left new rest p c.loop-procedure.first c.in-Some.ensures c.in-Ok.ensures.answer invariant.fault;
      passed = λ none.
          ap (map (λ (e : Entry). e.procedure)) pushed
          ∙ reverse-next c.loop-procedure.checked.items passed p rest c.in-Ok.ensures.ok.0 (invariant.passed none) ∙ ap reverse (sym next);
      records = subst (All (λ (e : Entry). e.records ≡ c.args.records)) (sym pushed) (All-push (λ (e : Entry). e.records ≡ c.args.records) c.loop-procedure.checked.items passed invariant.records c.in-Ok.ensures.ok.1);
    }

pub returns-clause-procs : goal.returns-clause-procs
returns-clause-procs c =
    let none = c.in_default.ensures.0 in
    let rest = drop (length c.loop-procedure.procs) c.args.procs in
    let whole : rest ≡ c.args.procs = ap (λ xs. drop (length xs) c.args.procs) none in
    ap (map (λ (e : Entry). e.procedure)) c.reverse.ensures.items
    ∙ reverse-whole c.loop-procedure.checked.items rest (c.loop-procedure.invariant.passed c.in_default-first.is) ∙ whole
