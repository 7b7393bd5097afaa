-- The columns of a drawing, each for a step of the plain machine.
use Rattle.std.specs.Prelude.{◌≡◌, ℕ, suc, ◌<◌, List, [], ◌∷◌, length, take, drop, Option, Some, None, Ok, Err, IfSome, slice_get, slice_index, if◌then◌else◌}
use Rattle.vll_record.specs.declared.claim.Claim.{Claim}
use Rattle.vll_record.specs.Headline.Word.{pair_word_of_record}
use Rattle.vll_record.specs.Word.{value_word_of}
use Rattle.vll_core.specs.declared.event.Event.{Event}
use Rattle.vll_core.specs.declared.event.Event.TheVariants as event
use Rattle.vll_core.specs.declared.seen.Seen.{Seen}
use Rattle.vll_core.specs.declared.seen.Seen.TheVariants as seen
use Rattle.vll_core.specs.Headline.State.{Base}
use Rattle.vll_core.specs.State.{State, counter, value}
use Rattle.vll_core.specs.Moves.{is_on}
use Rattle.vll_core.specs.Next.{claim_of}
use Rattle.vll_replay.specs.Steps.{Step}
use Rattle.vll_draw.specs.declared.picture.column.Column.{Column}
use Rattle.vll_draw.specs.declared.picture.column.RecordWords.{RecordWords}

-- the ticket that an event names
abbrev pub ticket_in : Event → Option ℕ
ticket_in (event.Load t) = Some t
ticket_in (event.Store t) = Some t
ticket_in (event.Release t) = Some t
ticket_in (event.Finish t) = Some t
ticket_in other = None

-- the ticket of an event's call, by what the event saw; the call of the open turn gets the next one
abbrev pub ticket_seen : ℕ → Event → Seen → Option ℕ
ticket_seen next e seen.Opened = Some next
ticket_seen next e (seen.Claimed old granted) = Some next
ticket_seen next e (seen.Free t) = Some t
ticket_seen next e (seen.Blocked t) = Some t
ticket_seen next e (seen.Run t) = Some t
ticket_seen next e other = ticket_in e

-- the ticket of a step's call; none if the step was refused
abbrev pub ticket_of : Step → Option ℕ
ticket_of s = elim s.answer [ Err why ↦ None | Ok seen ↦ ticket_seen (length s.after.entries) s.event seen ]

-- the claim that a step concerned; none if the step was refused
abbrev pub claim_of_step : Step → Option Claim
claim_of_step s = elim s.answer [ Err why ↦ None | Ok seen ↦ claim_of s.before s.event ]

-- the words of a record in a state
pub record AreWordsOf (b : Base) (s : State) (r : ℕ) (words : RecordWords) : Type 0 where
  pub value : words.value ≡ value b s r
  pub pair : words.pair ≡ counter s r

-- a column has the event of a step, its answer, its call's ticket and its claim, and the words of the claim's record
-- after it
pub record IsColumn (b : Base) (s : Step) (c : Column) : Type 0 where
  pub event : c.event ≡ s.event
  pub answer : c.answer ≡ s.answer
  pub ticket : c.ticket ≡ ticket_of s
  pub claim : c.claim ≡ claim_of_step s
  pub words : IfSome c.claim (λ k. k.id < length b.records → AreWordsOf b s.after k.id c.words)

-- a column for each step, in order
abbrev pub AreColumns : Base → List Step → List Column → Type 0
AreColumns b [] [] = Unit {0}
AreColumns b (s ∷ ss) (c ∷ cs) = IsColumn b s c × AreColumns b ss cs
AreColumns b ss cs = ⊥

-- at most `count` of the steps, from step `from` on
abbrev pub window : ℕ → ℕ → List Step → List Step
window from count ss = take count (drop from ss)

-- the words of a record in the machine's list of words
abbrev pub words_at : List ℕ → ℕ → RecordWords
words_at words r = record { value = slice_index words (value_word_of r); pair = slice_index words (pair_word_of_record r) }

-- the words of a record after a column: the column's if its claim is on the record, and else those before it
abbrev pub next_words : ℕ → RecordWords → Column → RecordWords
next_words r words c = if is_on r c.claim then c.words else words

-- the words of a record after some columns, by those before them
abbrev pub words_after : ℕ → RecordWords → List Column → RecordWords
words_after r words [] = words
words_after r words (c ∷ cs) = words_after r (next_words r words c) cs

-- after each column each record has the words of the state after the column's step, if it has the words before them all
abbrev pub AreSteps : Base → (ℕ → RecordWords) → List Step → List Column → Type 0
AreSteps b before ss cs =
    (n : ℕ) (s : Step) (r : ℕ) → slice_get ss n ≡ Some s → r < length b.records → AreWordsOf b s.after r (words_after r (before r) (take (suc n) cs))
