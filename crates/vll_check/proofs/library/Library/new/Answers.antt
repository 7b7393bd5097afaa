use Rattle.std.proofs.Common.{◌≡◌, List, length, map, false, sym, ap, subst, ◌∙◌}
use Rattle.vll_check.proofs.Common.{with_items_is, Entry, procedure_of, has_name_twice, AreArranged, AllPassed}
use Rattle.std.specs.Vec.{with_items}
use Rattle.vll_check.proofs.Indexed.{IsCatalog-arranged}
use Rattle.vll_check.proofs.library.Library.new.Goals as goal

-- the `Vec` holds what was arranged
pub invariant_of-result : goal.invariant_of-result
invariant_of-result c =
    let es = c.args.procs.items in
    let fs = c.arrange.new.entries in
    let given : c.deref_mut.result.now ≡ es = c.deref_mut.ensures.value in
    let items : (with_items c.args.procs fs).items ≡ fs = with_items_is c.args.procs fs (c.arrange.auto.entries ∙ ap length given ∙ sym c.args.procs.ok.0) in
    let P : List Entry → Type 0 = λ gs. AreArranged gs fs in
    let Q : List Entry → Type 0 = λ gs. AreArranged es gs in
    let arranged : AreArranged es (with_items c.args.procs fs).items = subst Q (sym items) (subst P given c.in_ok-arrange.ensures.ok) in
    let passed : AllPassed es = subst AllPassed given c.arrange.ensures.passed in
    let once : has_name_twice (map procedure_of es) ≡ false = sym (c.in_ok-arrange.ensures.twice ∙ ap (λ (gs : List Entry). has_name_twice (map procedure_of gs)) given) in
    record {
      catalog = IsCatalog-arranged es (with_items c.args.procs fs).items c.args.records arranged c.requires.few c.ranges.records.fits c.requires.for_records passed once;
      rising = arranged.rising;
      indexed = arranged.indexed;
    }
