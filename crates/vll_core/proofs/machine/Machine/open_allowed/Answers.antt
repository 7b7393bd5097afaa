use Rattle.vll_core.proofs.Faults.{openable}
use Rattle.vll_core.proofs.machine.Machine.open_allowed.Given.{Over}
use Rattle.std.proofs.Common.{rules, ℕ, ap, ◌∙◌, refl, List, ◌≡◌, ◌≤◌, length, None, vec_capacity, sym, subst, All}
use Rattle.vll_core.proofs.Common.{Call, Vec, Fits, Catalog, IsCatalog, MOST_RECORDS, Inside, open_fault, empty, AreFirstWords}
use Rattle.vll_core.specs.Shown.{begun}
use Rattle.vll_core.proofs.Entries.{shown_queued}
use Rattle.vll_core.proofs.Begun.{IsFresh, filled, none_alone, shown_begun, core_begun}
use Rattle.vll_core.proofs.machine.Machine.open_allowed.Goals as goal

abbrev made : (g : Over) → goal.After-of-2 g → Inside g.row.H.Denot
made g c = record {
  library = c.of.result;
  opening = c.of-2.result;
  words = c.in_ok-words.words;
  queue = c.in_ok-queue.queue;
  execution = c.in_ok-execution.execution;
  turn = None;
  scripts = c.args.scripts;
  next = c.in_ok-next.next;
  kept = c.in_ok-kept.kept;
}

queue_is : (g : Over) (c : goal.After-of-2 g) → c.in_ok-queue.queue ≡ empty c.args.config c.args.hash
queue_is g c = search rules

records_are : (g : Over) (c : goal.After-of-2 g) → c.of-2.result.value.items ≡ c.args.records.now.items
records_are g c = ap (λ (v : Vec ℕ). v.items) c.of-2.ensures

fresh : (g : Over) (c : goal.After-of-2 g) → IsFresh c.args.config c.args.hash (made g c)
fresh g c =
    let full = filled 0 c.len.result c.vec.result c.vec.ensures.items_if_clones_equal (λ y e. e) in
    let none = filled None c.len-2.result c.vec-2.result c.vec-2.ensures.items_if_clones_equal (none_alone _ (λ n e. e)) in
    record { queue = queue_is g c; execution = search rules; turn = refl; nexts = search rules; kepts = search rules }

pub invariant_of-result : goal.invariant_of-result
invariant_of-result g c =
    let words : AreFirstWords c.args.records.now.items c.in_ok-words.words.items = search rules in
    let room : c.args.config.limit ≤ vec_capacity c.in_ok-execution.execution = search rules in
    let ok = openable (length c.args.records.now.items) c.args.config (ap (λ (n : ℕ). open_fault n c.args.config) (sym c.requires.records) ∙ c.requires.allowed) in
    let same : c.args.library.now ≡ c.of.result.value = sym c.of.ensures in
    let long : length c.of-2.result.value.items ≡ length c.args.records.now.items = ap length (records_are g c) in
    core_begun _ _ (made g c) (fresh g c)
    (subst (λ (xs : List ℕ). AreFirstWords xs c.in_ok-words.words.items) (sym (records_are g c)) words)
    (subst (λ (n : ℕ). 1 ≤ n) (sym long) ok.records_are.some) (subst (λ (n : ℕ). n ≤ MOST_RECORDS) (sym long) ok.records_are.few)
    (ap (λ (l : Catalog). l.records) c.of.ensures ∙ (c.requires.records ∙ sym long))
    (subst IsCatalog same c.requires.catalog) (shown_queued _ _ c.queue.invariant c.queue.view_is) (rw (queue_is g c) room)
    (subst (λ (l : Catalog). All (λ (v : Vec Call). All (Fits l) v.items) c.args.scripts.items) same c.requires.fits)

pub returns : goal.returns
returns g c =
    shown_begun _ _ (made g c) (fresh g c)
    ∙ (ap (λ (xs : List ℕ). begun c.of.result.value xs c.args.scripts.items c.args.config c.args.hash) (records_are g c)
    ∙ ap (λ (l : Catalog). begun l c.args.records.now.items c.args.scripts.items c.args.config c.args.hash) c.of.ensures)
