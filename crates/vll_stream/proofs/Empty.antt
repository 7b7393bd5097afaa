-- Scripts that have no calls.
use Rattle.std.proofs.Common.{◌≡◌, Bool, ◌&&◌, List, [], ◌∷◌, refl, ap}
use Rattle.std.specs.Global.{Vec}
use Rattle.std.specs.List.{list_all}
use Rattle.vll_proc.specs.declared.call.Call.{Call}
use Rattle.vll_scenario.specs.Setup.{lists_of}
use Rattle.vll_stream.specs.Served.{is_none}

pub empty_lists : (scripts : List (Vec Call)) → list_all (λ (v : Vec Call). is_none v.items) scripts ≡ list_all is_none (lists_of scripts)
empty_lists [] = refl
empty_lists (v ∷ scripts) = ap (λ (b : Bool). is_none v.items && b) (empty_lists scripts)
