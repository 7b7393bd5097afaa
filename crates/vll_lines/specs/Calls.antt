-- The calls that lines ask for, and how many lines ask for counts.
use Rattle.std.specs.Prelude.{ℕ, suc, List, [], ◌∷◌, Result, Ok, Err}
use Rattle.vll_proc.specs.declared.call.Call.{Call}
use Rattle.vll_check.specs.Calls.{bare}
use Rattle.vll_lines.specs.declared.request.Request.{Request}
use Rattle.vll_lines.specs.declared.request.Asked.{Asked}
use Rattle.vll_lines.specs.declared.request.Asked.TheVariants as asked
use Rattle.vll_lines.specs.declared.request.ClientCall.{ClientCall}
use Rattle.vll_lines.specs.declared.request.LineFault.{LineFault}

-- one call more, if one is asked for
abbrev pub with_call : Result Asked LineFault → List ClientCall → List ClientCall
with_call (Ok (asked.Call c)) others = c ∷ others
with_call (Ok asked.Counts) others = others
with_call (Ok (asked.Records range)) others = others
with_call (Err why) others = others

-- the calls that lines ask for, in order
abbrev pub calls_of : List Request → List ClientCall
calls_of [] = []
calls_of (a ∷ more) = with_call a.asked (calls_of more)

-- one line more that asks for counts, if this does
abbrev pub with_counts : Result Asked LineFault → ℕ → ℕ
with_counts (Ok (asked.Call c)) others = others
with_counts (Ok asked.Counts) others = suc others
with_counts (Ok (asked.Records range)) others = others
with_counts (Err why) others = others

-- how many lines ask for counts
abbrev pub counts_asked : List Request → ℕ
counts_asked [] = 0
counts_asked (a ∷ more) = with_counts a.asked (counts_asked more)

-- a client and its call, without what the call finds
abbrev pub call_shown : ClientCall → ℕ × Call
call_shown c = (c.client, bare c.call)
