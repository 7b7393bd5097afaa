use Rattle.std.proofs.Common.{◌≡◌, ℕ, ◌+◌, ◌*◌, ◌≤◌, length, vec_capacity, sym, ap, ◌∙◌, subst}
use Rattle.vll_check.specs.Headline.Catalog.{Catalog}
use Rattle.vll_core.specs.Queue.{lines}
use Rattle.vll_core.specs.Headline.State.{Base, catalog_of}
use Rattle.vll_queue.proofs.Ending.{end_is_as_long, serial_closed}
use Rattle.vll_engine.proofs.reopening.reopen.Goals as goal

pub reopen-requires-clause-records : goal.reopen-requires-clause-records
reopen-requires-clause-records g c =
    ap (λ (l : Catalog). l.records) c.requires.ended.library ∙ sym (end_is_as_long g.N.Name.engine (lines c.args.ended.queue) c.as_slice.result.now (c.as_slice.ensures.value ∙ c.requires.ended.records))

pub reopen-requires-clause-room : goal.reopen-requires-clause-room
reopen-requires-clause-room g c =
    subst (λ (n : ℕ). 1 + 2 * n ≤ vec_capacity c.args.ended.words) (sym (end_is_as_long g.N.Name.engine (lines c.args.ended.queue) c.as_slice.result.now (c.as_slice.ensures.value ∙ c.requires.ended.records))) c.requires.ended.room_for_words

pub returns-in_default-clause-closed : goal.returns-in_default-clause-closed
returns-in_default-clause-closed g c =
    serial_closed g.N.Name.engine (lines c.args.ended.queue) (record { records = c.args.ended.records; pairs = c.args.ended.pairs; journal = c.into_journal.result }) c.requires.ended.serial c.requires.ended.records c.requires.ended.pairs c.into_journal.ensures.lines

pub of-requires-clause-library : goal.of-requires-clause-library
of-requires-clause-library g c =
    let count : c.args.ended.library.records ≡ length c.as_slice.result.now =
    ap (λ (l : Catalog). l.records) c.requires.ended.library ∙ sym (end_is_as_long g.N.Name.engine (lines c.args.ended.queue) c.as_slice.result.now (c.as_slice.ensures.value ∙ c.requires.ended.records)) in
    (λ i. record { records = count i; procs = c.args.ended.library.procs }) ∙ sym (ap catalog_of c.in-Ok.ensures.words)

pub of-requires-clause-memory : goal.of-requires-clause-memory
of-requires-clause-memory g c =
    let count : c.args.ended.library.records ≡ length c.as_slice.result.now =
    ap (λ (l : Catalog). l.records) c.requires.ended.library ∙ sym (end_is_as_long g.N.Name.engine (lines c.args.ended.queue) c.as_slice.result.now (c.as_slice.ensures.value ∙ c.requires.ended.records)) in
    c.of-memory.ensures ∙ c.records.ensures.records ∙ count ∙ sym (ap (λ (b : Base). length b.records) c.in-Ok.ensures.words)
