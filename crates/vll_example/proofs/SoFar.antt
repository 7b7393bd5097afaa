-- The epochs so far are one serial run that keeps the total, and with one more they still are.
use Rattle.std.proofs.Common.{◌≡◌, ℕ, List, [], ◌∷◌, ◌++◌, map, length, refl, sym, ap, ◌∙◌, Option, Some, slice_get, suc, sum, append_assoc, append-nil}
use Rattle.std.proofs.lemmas.List.{map-append}
use Rattle.std.proofs.lemmas.List.Concat.{flat_map-append}
use Rattle.vll_proc.specs.declared.call.Reply.{Reply}
use Rattle.vll_proc.specs.declared.syntax.Proc.{Proc}
use Rattle.vll_proc.specs.Epochs.{end_by_epochs, replies_by_epochs}
use Rattle.vll_proc.specs.Headline.Serial.{Made, answer, apply, end}
use Rattle.vll_proc.specs.Serial.{replies}
use Rattle.vll_proc.proofs.Joined.{carried_to_end}
use Rattle.vll_core.specs.declared.line.Line.{Line}
use Rattle.vll_counters.specs.Headline.Views.{calls_in}
use Rattle.vll_queue.specs.Closed.{AreSerial}
use Rattle.vll_queue.specs.Shown.{Named, library_of}
use Rattle.vll_example.specs.Bank.{HoldInTotal, procedures}
use Rattle.vll_example.specs.Epochs.{replies_in}
use Rattle.vll_example.proofs.Total.{journal_keeps}

-- ---- one more epoch

replies_of_one_more : (procs : List Proc) (epochs : List (List Made)) (calls : List Made) (records : List ℕ)
    → replies_by_epochs procs (epochs ++ (calls ∷ [])) records ≡ replies_by_epochs procs epochs records ++ replies procs calls (end_by_epochs procs epochs records)
replies_of_one_more procs [] calls records = append-nil (replies procs calls records)
replies_of_one_more procs (first ∷ more) calls records =
    ap (λ (rs : List Reply). replies procs first records ++ rs) (replies_of_one_more procs more calls (end procs first records))
    ∙ sym (append_assoc (replies procs first records) (replies_by_epochs procs more (end procs first records)) (replies procs calls (end_by_epochs procs more (end procs first records))))

end_of_one_more : (procs : List Proc) (epochs : List (List Made)) (calls : List Made) (records : List ℕ)
    → end_by_epochs procs (epochs ++ (calls ∷ [])) records ≡ end procs calls (end_by_epochs procs epochs records)
end_of_one_more procs [] calls records = refl
end_of_one_more procs (first ∷ more) calls records = end_of_one_more procs more calls (end procs first records)

-- lines that have the answers of their calls have the replies of a serial run
replies_of : (procs : List Proc) (lines : List Line) (records : List ℕ) → ((t : ℕ) (l : Line) → slice_get lines t ≡ Some l → l.reply ≡ answer procs (calls_in lines) records t)
    → map (λ (l : Line). l.reply) lines ≡ map Some (replies procs (calls_in lines) records)
replies_of procs [] records each = refl
replies_of procs (l ∷ lines) records each =
    let now = apply procs l.call records in
    let first : l.reply ≡ Some now.reply = each 0 l refl in
    let more : map (λ (x : Line). x.reply) lines ≡ map Some (replies procs (calls_in lines) now.records) = replies_of procs lines now.records (λ t. each (suc t)) in
    cc

-- ---- the epochs so far

-- the journals of the epochs so far, from the first accounts on, and the accounts that they have left
pub record AreSoFar (first : List ℕ) (journals : List (List Line)) (left : List ℕ) : Type 0 where
  pub answered : replies_in journals ≡ map Some (replies_by_epochs procedures (map calls_in journals) first)
  pub at_end : left ≡ end_by_epochs procedures (map calls_in journals) first
  pub total : sum left ≡ sum first

-- no epoch has run yet
pub none_so_far : (first : List ℕ) → AreSoFar first [] first
none_so_far first = record { answered = refl; at_end = refl; total = refl }

-- an epoch of the bank's engine is one more
pub one_more : (e : Named) (first : List ℕ) (journals : List (List Line)) (lines : List Line) (left : List ℕ) → e.base.procs ≡ procedures → AreSoFar first journals e.base.records
    → AreSerial e lines → left ≡ end e.base.procs (calls_in lines) e.base.records → AreSoFar first (journals ++ (lines ∷ [])) left
one_more e first journals lines left bank so_far serial end_is =
    let reply_of : Line → Option Reply = λ l. l.reply in
    let epochs : List (List Made) = map calls_in journals in
    let mapped : map calls_in (journals ++ (lines ∷ [])) ≡ epochs ++ (calls_in lines ∷ []) = map-append calls_in journals (lines ∷ []) in
    let joined : replies_in (journals ++ (lines ∷ [])) ≡ replies_in journals ++ map reply_of lines =
    flat_map-append (λ (ls : List Line). map reply_of ls) journals (lines ∷ []) ∙ ap (λ (rs : List (Option Reply)). replies_in journals ++ rs) (append-nil (map reply_of lines)) in
    let here : map reply_of lines ≡ map Some (replies procedures (calls_in lines) e.base.records) =
    replies_of procedures lines e.base.records (λ t l at. serial.answered t l at ∙ ap (λ (ps : List Proc). answer ps (calls_in lines) e.base.records t) bank) in
    let keep = journal_keeps (library_of e) (sum e.base.records) lines bank serial.ready in
    record {
      answered =
          joined
          ∙ ap (λ (rs : List (Option Reply)). rs ++ map reply_of lines) so_far.answered
          ∙ ap (λ (rs : List (Option Reply)). map Some (replies_by_epochs procedures epochs first) ++ rs) here
          ∙ ap (λ (now : List ℕ). map Some (replies_by_epochs procedures epochs first) ++ map Some (replies procedures (calls_in lines) now)) so_far.at_end
          ∙ sym (map-append Some (replies_by_epochs procedures epochs first) (replies procedures (calls_in lines) (end_by_epochs procedures epochs first)))
          ∙ ap (map Some) (sym (replies_of_one_more procedures epochs (calls_in lines) first))
          ∙ ap (λ (es : List (List Made)). map Some (replies_by_epochs procedures es first)) (sym mapped);
      at_end =
          end_is
          ∙ ap (λ (ps : List Proc). end ps (calls_in lines) e.base.records) bank
          ∙ ap (end procedures (calls_in lines)) so_far.at_end
          ∙ sym (end_of_one_more procedures epochs (calls_in lines) first)
          ∙ ap (λ (es : List (List Made)). end_by_epochs procedures es first) (sym mapped);
      total =
          ap sum end_is
          ∙ (carried_to_end (HoldInTotal (length e.base.records) (sum e.base.records)) e.base.procs (calls_in lines) e.base.records (refl, refl) keep).1
          ∙ so_far.total;
    }
