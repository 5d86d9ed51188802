-- The keys of a job: how they are written, and what the members under them have to be.
use Rattle.std.specs.Prelude.{◌≡◌, ℕ, List, [], ◌∷◌, Bool, map, codes}
use Rattle.serde_json.specs.Data.{Data, boolean, string, array}
use Rattle.serde_json.specs.View.{items_of}
use Rattle.elasticlunr_error.specs.Text.{Bytes}
use Rattle.elasticlunr_job_format.specs.Job as spec
use Rattle.elasticlunr_job_format.specs.Job.{texts, document}
use Rattle.elasticlunr_job_format.specs.declared.key.Key.{Key}
use Rattle.elasticlunr_job_format.specs.declared.key.Key.TheVariants.{Fields, Docs, Ref, Save, Lang}
use Rattle.elasticlunr_job_format.specs.declared.key.Key.TheVariants.{Pretty, Remove, Compact}
use Rattle.elasticlunr_job_format.specs.declared.key.Wanted.{Wanted}
use Rattle.elasticlunr_job_format.specs.declared.key.Wanted.TheVariants.{Text, Truth, Texts}
use Rattle.elasticlunr_job_format.specs.declared.key.Wanted.TheVariants.{Documents}

abbrev pub key_name : Key → Bytes
key_name Fields = codes "fields"
key_name Docs = codes "docs"
key_name Ref = codes "ref"
key_name Save = codes "save"
key_name Lang = codes "lang"
key_name Pretty = codes "pretty"
key_name Remove = codes "remove"
key_name Compact = codes "compact"

abbrev pub wanted_under : Key → Wanted
wanted_under Fields = Texts
wanted_under Docs = Documents
wanted_under Ref = Text
wanted_under Save = Truth
wanted_under Lang = Text
wanted_under Pretty = Truth
wanted_under Remove = Texts
wanted_under Compact = Truth

-- the value is what has to stand there
abbrev pub IsWanted : Wanted → Data → Type 0
IsWanted Text d = (text : Bytes) × (d ≡ string text)
IsWanted Truth d = (truth : Bool) × (d ≡ boolean truth)
IsWanted Texts d = (members : List Bytes) × (d ≡ texts members)
IsWanted Documents d = (docs : List spec.Document) × (d ≡ array (items_of (map document docs)))

-- the keys, in the order in which their members are looked at
abbrev pub keys_in_order : List Key
keys_in_order = Fields ∷ Docs ∷ Ref ∷ Lang ∷ Save ∷ Pretty ∷ Compact ∷ Remove ∷ []

-- the place of a key in that order, from 1
abbrev pub key_place : Key → ℕ
key_place Fields = 1
key_place Docs = 2
key_place Ref = 3
key_place Lang = 4
key_place Save = 5
key_place Pretty = 6
key_place Compact = 7
key_place Remove = 8
