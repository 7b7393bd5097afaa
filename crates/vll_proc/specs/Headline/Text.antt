-- The text of a reply, as a list of bytes.
use Rattle.std.specs.Prelude.{ℕ, List, ◌∷◌, ◌++◌, codes}
use Rattle.std.specs.List.{flat_map}
use Rattle.std.specs.Fmt.{decimal}
use Rattle.vll_proc.specs.declared.call.Reason.{Reason}
use Rattle.vll_proc.specs.declared.call.Reason.TheVariants.{Code, Overflow, Underflow, ZeroDivisor, Moved}
use Rattle.vll_proc.specs.declared.call.Reply.{Reply}
use Rattle.vll_proc.specs.declared.call.Reply.TheVariants.{Committed, Aborted}

-- the text of a reason
abbrev pub reason_text : Reason → List ℕ
reason_text Overflow = codes "overflow"
reason_text Underflow = codes "underflow"
reason_text ZeroDivisor = codes "zero divisor"
reason_text (Code n) = codes "code " ++ decimal n
reason_text Moved = codes "moved"

-- an output, after a space
abbrev pub output_text : ℕ → List ℕ
output_text n = 32 ∷ decimal n

-- the text of a reply
abbrev pub reply_text : Reply → List ℕ
reply_text (Committed outputs) = codes "committed" ++ flat_map output_text outputs
reply_text (Aborted why) = codes "aborted " ++ reason_text why
