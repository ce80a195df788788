-- Texts that are read, and told to be patterns.
use Rattle.std.proofs.Common.{◌≡◌, ℕ, Bool, List, Option, Some, None, Ok, Err, option_map, refl}
use Rattle.toml.specs.Data.{Data, Members, get_member}
use Rattle.mx_config.specs.declared.fault.ConfigRefusal.{ConfigRefusal}
use Rattle.mx_config.specs.declared.fault.ConfigRefusal.TheVariants.{Fault, OutOfMemory}
use Rattle.mx_config.specs.declared.fault.Place.{Place}
use Rattle.mx_config.specs.declared.value.TextForm.TheVariants.{Any}
use Rattle.mx_config.specs.Faults.{Refuses, fault_of}
use Rattle.mx_config.specs.Rows.{if_there, optional_key, placed}
use Rattle.mx_config.specs.Values.{Valued, judged, pattern_value, text}

judged_map : (test : List ℕ → Bool) (o : Option Data)
    → option_map (pattern_value test) o ≡ option_map (judged test) (option_map (text Any) o)
unfolding pattern_value
judged_map test None = refl
judged_map test (Some d) = refl

refused_there : (place : Place) (key : List ℕ) (test : List ℕ → Bool) (o : Option (Valued (List ℕ))) (refusal : ConfigRefusal)
    → Refuses refusal (fault_of (placed place key (if_there o))) → Refuses refusal
    (fault_of (placed place key (if_there (option_map (judged test) o))))
refused_there place key test None refusal h = h
refused_there place key test (Some (Ok t)) OutOfMemory h = tt
refused_there place key test (Some (Ok t)) (Fault fault) h = absurd (cc)
refused_there place key test (Some (Err kind)) refusal h = h

pub pattern_refused : (place : Place) (key : List ℕ) (test : List ℕ → Bool) (ms : Members) (refusal : ConfigRefusal)
    → Refuses refusal (fault_of (optional_key place key (text Any) ms))
    → Refuses refusal (fault_of (optional_key place key (pattern_value test) ms))
unfolding optional_key
pattern_refused place key test ms refusal h = rw (judged_map test (get_member key ms))
    (refused_there place key test (option_map (text Any) (get_member key ms)) refusal h)

there : (place : Place) (key : List ℕ) (test : List ℕ → Bool) (o : Option (Valued (List ℕ))) (t : List ℕ)
    → placed place key (if_there o) ≡ Ok (Some t)
    → placed place key (if_there (option_map (judged test) o)) ≡ placed place key (if_there (Some (judged test (Ok t))))
there place key test None t h = absurd (cc)
there place key test (Some (Ok x)) t h = let one : x ≡ t = cc in rw one refl
there place key test (Some (Err kind)) t h = absurd (cc)

pub pattern_there : (place : Place) (key : List ℕ) (test : List ℕ → Bool) (ms : Members) (t : List ℕ)
    → optional_key place key (text Any) ms ≡ Ok (Some t)
    → optional_key place key (pattern_value test) ms ≡ placed place key (if_there (Some (judged test (Ok t))))
unfolding optional_key
pattern_there place key test ms t h = rw (judged_map test (get_member key ms))
    (there place key test (option_map (text Any) (get_member key ms)) t h)

not_there : (place : Place) (key : List ℕ) (test : List ℕ → Bool) (o : Option (Valued (List ℕ))) → placed place key (if_there o) ≡ Ok None
    → placed place key (if_there (option_map (judged test) o)) ≡ Ok None
not_there place key test None h = refl
not_there place key test (Some (Ok x)) h = absurd (cc)
not_there place key test (Some (Err kind)) h = absurd (cc)

pub pattern_not_there : (place : Place) (key : List ℕ) (test : List ℕ → Bool) (ms : Members)
    → optional_key place key (text Any) ms ≡ Ok None → optional_key place key (pattern_value test) ms ≡ Ok None
unfolding optional_key
pattern_not_there place key test ms h = rw (judged_map test (get_member key ms))
    (not_there place key test (option_map (text Any) (get_member key ms)) h)
