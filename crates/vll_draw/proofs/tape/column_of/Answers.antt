use Rattle.std.proofs.Common.{◌≡◌, ℕ, ◌<◌, ◌∙◌, ap, ap₂, sym, subst, length, Result, Ok, Err, Option, None, IfSome}
use Rattle.vll_record.specs.declared.claim.Claim.{Claim}
use Rattle.vll_core.specs.declared.event.Event.{Event}
use Rattle.vll_core.specs.declared.refusal.Refusal.{Refusal}
use Rattle.vll_core.specs.declared.seen.Seen.{Seen}
use Rattle.vll_core.specs.Headline.State.{Base}
use Rattle.vll_core.specs.State.{State}
use Rattle.vll_core.specs.Next.{claim_of}
use Rattle.vll_replay.specs.Steps.{Step}
use Rattle.vll_draw.specs.Columns.{AreWordsOf, ticket_of, ticket_seen}
use Rattle.vll_draw.specs.declared.picture.column.RecordWords.{RecordWords}
use Rattle.vll_draw.proofs.tape.column_of.Goals as goal

-- the ticket and the claim of a step, by what it was answered
abbrev ticket_by : Step → Result Seen Refusal → Option ℕ
ticket_by s r = elim r [ Err why ↦ None | Ok seen ↦ ticket_seen (length s.after.entries) s.event seen ]

abbrev claim_by : Step → Result Seen Refusal → Option Claim
claim_by s r = elim r [ Err why ↦ None | Ok seen ↦ claim_of s.before s.event ]

ticket_seen_of : (s : Step) (now : State) (e : Event) (r : Result Seen Refusal) (seen : Seen) → now ≡ s.after → e ≡ s.event → r ≡ s.answer → r ≡ Ok seen → ticket_seen (length now.entries) e seen ≡ ticket_of s
ticket_seen_of s now e r seen after event answer is =
    ap₂ (λ (n : State) (x : Event). ticket_seen (length n.entries) x seen) after event ∙ ap (ticket_by s) (sym is ∙ answer)

words_after : (b : Base) (s : Step) (now : State) (claim of : Option Claim) (words : RecordWords) → now ≡ s.after → of ≡ claim → IfSome claim (λ k. k.id < length b.records → AreWordsOf b now k.id words)
    → IfSome of (λ k. k.id < length b.records → AreWordsOf b s.after k.id words)
words_after b s now claim of words after same are =
    subst (λ (n : State). IfSome of (λ k. k.id < length b.records → AreWordsOf b n k.id words)) after
    (subst (λ (m : Option Claim). IfSome m (λ k. k.id < length b.records → AreWordsOf b now k.id words)) (sym same) are)

pub returns-in-Ok : goal.returns-in-Ok
returns-in-Ok c = λ s event answer after claim. record {
  event = c.column_with.ensures.event ∙ event;
  answer = c.column_with.ensures.answer ∙ answer;
  ticket = c.column_with.ensures.ticket ∙ c.ticket_of.ensures ∙ ticket_seen_of s c.args.core.now.state c.args.event.now c.args.answer.now _ after event answer c.in-Ok.is;
  claim = c.column_with.ensures.claim ∙ claim ∙ ap (claim_by s) (sym c.in-Ok.is ∙ answer);
  words = words_after _ s c.args.core.now.state _ _ _ after c.column_with.ensures.claim c.column_with.ensures.words;
}

pub returns-in-Err : goal.returns-in-Err
returns-in-Err c = λ s event answer after claim. record {
  event = c.column_with-in-Err.ensures.event ∙ event;
  answer = c.column_with-in-Err.ensures.answer ∙ answer;
  ticket = c.column_with-in-Err.ensures.ticket ∙ ap (ticket_by s) (sym c.in-Err.is ∙ answer);
  claim = c.column_with-in-Err.ensures.claim ∙ ap (claim_by s) (sym c.in-Err.is ∙ answer);
  words = words_after _ s c.args.core.now.state _ _ _ after c.column_with-in-Err.ensures.claim c.column_with-in-Err.ensures.words;
}
