-- After an epoch there is one more journal, and the next engine is the bank's.
use Rattle.std.proofs.Common.{rules, ◌≡◌, ◌∙◌, List, [], ◌∷◌, ◌++◌, Vec, ap, map, subst, sym}
use Rattle.std.proofs.lemmas.List.{map-append}
use Rattle.std.specs.Global.{Global}
use Rattle.vll_core.specs.declared.line.Line.{Line}
use Rattle.vll_sca.specs.Placing.{placing}
use Rattle.vll_queue.specs.Shown.{name_of}
use Rattle.vll_example.proofs.SoFar.{AreSoFar, one_more}
use Rattle.vll_example.proofs.epochs.run_epochs.Goals as goal

pub loop-preserved : goal.loop-preserved
loop-preserved g c =
    let l = c.loop in
    let next = c.in_ok-journal.field-0 in
    let done = c.in_ok-journal.ensures in
    let first = c.args.opening.records in
    let lines_of : Vec Line Global → List Line = λ j. j.items in
    let joined : map lines_of c.push.new.self.items ≡ map lines_of l.journals.items ++ (next.journal.items ∷ []) =
    ap (map lines_of) c.in_ok-push.ensures.items ∙ map-append lines_of l.journals.items (next.journal ∷ []) in
    let more : AreSoFar first (map lines_of l.journals.items ++ (next.journal.items ∷ [])) next.opening.records =
    one_more (name_of placing l.now) first (map lines_of l.journals.items) next.journal.items next.opening.records
    l.invariant.procedures l.invariant.so_far done.serial done.opening.records in
    record {
      procedures = ap (λ library. library.procs) done.opening.library ∙ l.invariant.procedures;
      limit = ap (λ config. config.limit) done.opening.config ∙ l.invariant.limit;
      so_far = subst (λ (journals : List (List Line)). AreSoFar first journals next.opening.records) (sym joined) more;
    }

pub returns-clause-serial : goal.returns-clause-serial
returns-clause-serial g c = search rules
