use Rattle.std.proofs.Common.{◌≡◌, List, Some, rules, sym, ap, ◌∙◌, subst, ◌<◌, length, get_or, slice_get}
use Rattle.vll_check.proofs.Common.{Equal, Catalog, Entry, number_named}
use Rattle.std.proofs.lemmas.Fn.{always_returns_same}
use Rattle.vll_check.proofs.Finding.{to_name, number_named-found, number_named-none, slice_get-numbered, IsNonDecreasingBy-rising, none_equal}
use Rattle.vll_check.proofs.library.Library.named.Goals as goal

pub returns-in-Ok-clause-number : goal.returns-in-Ok-clause-number
returns-in-Ok-clause-number c =
    let es = c.self.inside.procs.items in
    let name = c.args.name.now in
    let entry = c.index-entry.result.now in
    let all : c.deref.result.now ≡ es = c.deref.ensures.value in
    let P : List Entry → Type 0 = λ xs. to_name name (get_or xs c.in-Ok.place entry) ≡ Equal in
    let Q : List Entry → Type 0 = λ xs. c.in-Ok.place < length xs in
    let position = c.in-Ok.ensures.position (to_name name) (always_returns_same _ _ _ (λ a r f called. search rules)) in
    let equal = subst P all (position entry) in
    let number = c.number.ensures ∙ ap (λ (e : Entry). e.number) c.index-entry.ensures in
    let named = number_named-found es name c.self.invariant.indexed c.self.invariant.catalog.once c.in-Ok.place entry (subst Q all c.in-Ok.ensures.bound) equal in
    ap Some number ∙ sym named ∙ ap (λ (l : Catalog). number_named name l.procs) c.self.view_is

pub returns-in-Ok-clause-procedure : goal.returns-in-Ok-clause-procedure
returns-in-Ok-clause-procedure c =
    let es = c.self.inside.procs.items in
    let entry = c.index-entry.result.now in
    let all : c.deref.result.now ≡ es = c.deref.ensures.value in
    let Q : List Entry → Type 0 = λ xs. c.in-Ok.place < length xs in
    let number = c.number.ensures ∙ ap (λ (e : Entry). e.number) c.index-entry.ensures in
    let procedure = c.proc.ensures.procedure ∙ ap (λ (e : Entry). e.procedure) c.index-entry.ensures in
    let there = slice_get-numbered es c.self.invariant.indexed c.in-Ok.place entry (subst Q all c.in-Ok.ensures.bound) in
    ap (λ (l : Catalog). slice_get l.procs c.number.result) (sym c.self.view_is) ∙ ap (slice_get _) number ∙ there ∙ sym (ap Some procedure)

pub returns-in-Err-clause-number : goal.returns-in-Err-clause-number
returns-in-Err-clause-number c =
    let es = c.self.inside.procs.items in
    let name = c.args.name.now in
    let all : c.deref.result.now ≡ es = c.deref.ensures.value in
    let position = c.in-Err.ensures.position (to_name name) (always_returns_same _ _ _ (λ a r f called. search rules)) in
    let named = number_named-none es name c.self.invariant.indexed (none_equal es name c.in-Err.field-0 (rw all at position (IsNonDecreasingBy-rising es name c.self.invariant.rising))) in
    sym named ∙ ap (λ (l : Catalog). number_named name l.procs) c.self.view_is
