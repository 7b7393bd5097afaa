-- What follows a word is what the table of its form has.
use Rattle.std.proofs.Common.{◌≡◌, ℕ, Bool, true, false, List, [], ◌∷◌, Some, if◌then◌else◌, option_map, refl}
use Rattle.std.specs.Prelude.{unwrap_or}
use Rattle.std.specs.Str.{bytes_eq}
use Rattle.vll_proc.specs.declared.syntax.Edition.{Edition}
use Rattle.vll_scenario.specs.Syntax.{find_word}
use Rattle.vll_fault_path.specs.declared.form.Form.{Form}
use Rattle.vll_fault_path.specs.Forms.{find_form, slots_in, table_in}

pub slots-found : (edition : Edition) (word : List ℕ) (forms : List Form) → unwrap_or (option_map (slots_in edition) (find_form word forms)) [] ≡ unwrap_or (find_word word (table_in edition forms)) []
slots-found edition word [] = refl
slots-found edition word (f ∷ fs) = by_test (bytes_eq word f.word.now) (slots-found edition word fs)
  where
    by_test : (same : Bool) → unwrap_or (option_map (slots_in edition) (find_form word fs)) [] ≡ unwrap_or (find_word word (table_in edition fs)) []
        → unwrap_or (option_map (slots_in edition) (if same then Some f else find_form word fs)) [] ≡ unwrap_or (if same then Some (slots_in edition f) else find_word word (table_in edition fs)) []
    by_test true others = refl
    by_test false others = others
