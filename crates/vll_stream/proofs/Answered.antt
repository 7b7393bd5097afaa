-- The answers to lines, one list of lines after the other.
use Rattle.std.proofs.Common.{◌≡◌, ℕ, suc, List, [], ◌∷◌, ◌++◌, length, map, refl, sym, ap, ◌∙◌, arith, Option, Result, Ok, Err, append_assoc, length-append}
use Rattle.std.proofs.lemmas.List.{length-map, map-append}
use Rattle.vll_proc.specs.declared.call.Call.{Call}
use Rattle.vll_proc.specs.declared.call.Reply.{Reply}
use Rattle.vll_proc.specs.declared.syntax.Proc.{Proc}
use Rattle.vll_proc.specs.Headline.Serial.{After, Made, apply, end}
use Rattle.vll_proc.specs.Serial.{replies}
use Rattle.vll_lines.specs.Answers.{answers, counts_line, fault_line, records_at, records_line, reply_line, with_answer}
use Rattle.vll_lines.specs.Calls.{call_shown, calls_of, counts_asked, with_call, with_counts}
use Rattle.vll_lines.specs.Counts.{all_counted, counted}
use Rattle.vll_lines.specs.declared.counts.Counts.{Counts}
use Rattle.vll_lines.specs.declared.counts.Rounds.{Rounds}
use Rattle.vll_lines.specs.declared.request.Asked.{Asked}
use Rattle.vll_lines.specs.declared.request.Asked.TheVariants as asked
use Rattle.vll_lines.specs.declared.request.Id.{Id}
use Rattle.vll_lines.specs.declared.request.LineFault.{LineFault}
use Rattle.vll_lines.specs.declared.request.Request.{Request}
use Rattle.vll_lines.proofs.Calls.{calls_of_both, counts_asked_both}
use Rattle.vll_lines.proofs.Counted.{all_counted_both}
use Rattle.vll_stream.specs.Served.{AreOrdered, made_shown}

-- the replies of both lists
pub replies_of_both : (procs : List Proc) (calls more : List Made) (records : List ℕ)
    → replies procs (calls ++ more) records ≡ replies procs calls records ++ replies procs more (end procs calls records)
replies_of_both procs [] more records = refl
replies_of_both procs (m ∷ calls) more records =
    ap (λ (rs : List Reply). (apply procs m.1 records).reply ∷ rs) (replies_of_both procs calls more (apply procs m.1 records).records)

pub length-replies : (procs : List Proc) (calls : List Made) (records : List ℕ) → length (replies procs calls records) ≡ length calls
length-replies procs [] records = refl
length-replies procs (m ∷ calls) records = ap suc (length-replies procs calls (apply procs m.1 records).records)

-- the calls of both lists of lines
pub ordered_then : (requests others : List Request) (calls more : List Made) → AreOrdered requests calls → AreOrdered others more → AreOrdered (requests ++ others) (calls ++ more)
ordered_then requests others calls more one two =
    ap (map call_shown) (calls_of_both requests others)
    ∙ (map-append call_shown (calls_of requests) (calls_of others)
    ∙ (ap (λ (l : List (ℕ × Call)). l ++ map call_shown (calls_of others)) one
    ∙ (ap (λ (l : List (ℕ × Call)). map made_shown calls ++ l) two ∙ sym (map-append made_shown calls more))))

-- the lines of both lists that ask for counts
pub told_then : (requests others : List Request) (rounds more : List Rounds) → length rounds ≡ counts_asked requests → length more ≡ counts_asked others → length (rounds ++ more) ≡ counts_asked (requests ++ others)
told_then requests others rounds more one two =
    let long = length-append rounds more in
    let both = counts_asked_both requests others in
    omega (arith, long, both, one, two)

-- the counts after both lists of calls
pub counted_then : (procs : List Proc) (calls more : List Made) (records : List ℕ) (n m k : Counts) → m ≡ all_counted n (replies procs calls records) → k ≡ all_counted m (replies procs more (end procs calls records))
    → k ≡ all_counted n (replies procs (calls ++ more) records)
counted_then procs calls more records n m k one two =
    two
    ∙ (ap (λ (c : Counts). all_counted c (replies procs more (end procs calls records))) one
    ∙ (sym (all_counted_both n (replies procs calls records) (replies procs more (end procs calls records)))
    ∙ ap (all_counted n) (sym (replies_of_both procs calls more records))))

-- lines after others, which ask for as many calls, and of whose lines with counts there are as many rounds
abbrev InARow : (procs : List Proc) (xs ys : List Request) → Type 0
InARow procs xs ys = (n m : Counts) (records : List ℕ) (t u : List Made) (r s : List Rounds) → length t ≡ length (calls_of xs) → length r ≡ counts_asked xs → m ≡ all_counted n (replies procs t records)
    → answers procs (xs ++ ys) n records (t ++ u) (r ++ s) ≡ answers procs xs n records t r ++ answers procs ys m (end procs t records) u s

one_in_a_row : (procs : List Proc) (it : Option Id) (a : Result Asked LineFault) (xs ys : List Request) → InARow procs xs ys → (n m : Counts) (records : List ℕ) (t u : List Made) (r s : List Rounds)
    → length t ≡ length (with_call a (calls_of xs)) → length r ≡ with_counts a (counts_asked xs) → m ≡ all_counted n (replies procs t records)
    → with_answer procs it a (answers procs (xs ++ ys)) n records (t ++ u) (r ++ s) ≡ with_answer procs it a (answers procs xs) n records t r ++ answers procs ys m (end procs t records) u s
one_in_a_row procs it (Err why) xs ys more n m records t u r s many told counts =
    ap (λ (l : List ℕ). fault_line it why ++ l) (more n m records t u r s many told counts) ∙ sym (append_assoc (fault_line it why) (answers procs xs n records t r) (answers procs ys m (end procs t records) u s))
one_in_a_row procs it (Ok (asked.Call c)) xs ys more n m records [] u r s many told counts = absurd (omega (arith, many))
one_in_a_row procs it (Ok (asked.Call c)) xs ys more n m records (one ∷ t) u r s many told counts =
    let after : After = apply procs one.1 records in
    ap (λ (l : List ℕ). reply_line it n.calls after.reply ++ l) (more (counted n after.reply) m after.records t u r s (omega (arith, many)) told counts)
    ∙ sym (append_assoc (reply_line it n.calls after.reply) (answers procs xs (counted n after.reply) after.records t r) (answers procs ys m (end procs t after.records) u s))
one_in_a_row procs it (Ok asked.Counts) xs ys more n m records t u [] s many told counts = absurd (omega (arith, told))
one_in_a_row procs it (Ok asked.Counts) xs ys more n m records t u (one ∷ r) s many told counts =
    ap (λ (l : List ℕ). counts_line it n one ++ l) (more n m records t u r s many (omega (arith, told)) counts)
    ∙ sym (append_assoc (counts_line it n one) (answers procs xs n records t r) (answers procs ys m (end procs t records) u s))
one_in_a_row procs it (Ok (asked.Records range)) xs ys more n m records t u r s many told counts =
    ap (λ (l : List ℕ). records_line it (records_at range records) ++ l) (more n m records t u r s many told counts)
    ∙ sym (append_assoc (records_line it (records_at range records)) (answers procs xs n records t r) (answers procs ys m (end procs t records) u s))

answers_both : (procs : List Proc) (xs ys : List Request) → InARow procs xs ys
answers_both procs [] ys n m records [] u [] s many told counts = ap (λ (k : Counts). answers procs ys k records u s) (sym counts)
answers_both procs [] ys n m records [] u (one ∷ r) s many told counts = absurd (omega (arith, told))
answers_both procs [] ys n m records (one ∷ t) u r s many told counts = absurd (omega (arith, many))
answers_both procs (a ∷ xs) ys n m records t u r s many told counts = one_in_a_row procs a.id a.asked xs ys (answers_both procs xs ys) n m records t u r s many told counts

-- the answers to both lists
pub answered_then : (requests others : List Request) (calls more : List Made) (procs : List Proc) (records : List ℕ) (rounds others_rounds : List Rounds) (n m : Counts) → AreOrdered requests calls
    → length rounds ≡ counts_asked requests → m ≡ all_counted n (replies procs calls records)
    → answers procs (requests ++ others) n records (calls ++ more) (rounds ++ others_rounds)
    ≡ answers procs requests n records calls rounds ++ answers procs others m (end procs calls records) more others_rounds
answered_then requests others calls more procs records rounds others_rounds n m are told counts =
    let asked : length (calls_of requests) ≡ length calls = sym (length-map (calls_of requests) call_shown) ∙ (ap length are ∙ length-map calls made_shown) in
    answers_both procs requests others n m records calls more rounds others_rounds (sym asked) told counts
