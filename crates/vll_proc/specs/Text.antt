-- The text of outputs, as a list of bytes.
use Rattle.std.specs.Prelude.{ℕ, List, [], ◌∷◌, ◌++◌}
use Rattle.std.specs.List.{flat_map}
use Rattle.std.specs.Fmt.{decimal}
use Rattle.vll_proc.specs.Headline.Text.{output_text}

-- outputs, separated by spaces
abbrev pub outputs_text : List ℕ → List ℕ
outputs_text [] = []
outputs_text (n ∷ ns) = decimal n ++ flat_map output_text ns
