-- The names of stages that a value has.
use Rattle.std.proofs.Common.{◌≡◌, ◌↔◌, Bool, false, true≢false, List, Some, String, Global, IsTrue, bytes_eq}
use Rattle.std.proofs.Common.{string_bytes, codes, sym, ap, subst, ◌∙◌}
use Rattle.std.proofs.lemmas.Slice.Eq.{bytes_eq-Decides, slice_eq-Decides}
use Rattle.std.specs.Cmp.Derive.Mapped.{pointwise-map}
use Rattle.std.specs.Cmp.Lexicographic.{pointwise}
use Rattle.std.specs.String.{string_eq}
use Rattle.serde_json.specs.Data.{Data, array}
use Rattle.serde_json.specs.Find.{get}
use Rattle.elasticlunr_text.specs.Text.{Bytes, bytes_of}
use Rattle.elasticlunr_trie.specs.Table.{Table}
use Rattle.elasticlunr_store.specs.Contents.{Contents}
use Rattle.elasticlunr.specs.Printed.{IsValueOf, texts}
use Rattle.elasticlunr.specs.Standing.{Plan}
use Rattle.elasticlunr_print.proofs.Telling.{same_texts}
use Rattle.elasticlunr_search.specs.Fields.{HasStages}

-- the value of an index has the names of its plan
pub stages_held : (plan : Plan) (tables : List Table) (contents : Contents) (v : Data)
    → IsValueOf plan tables contents v → HasStages v plan.stages
stages_held plan tables contents v is = ap (get (codes "pipeline")) is.whole

-- a value has one list of names
one_stages : (v : Data) (names others : List Bytes) → HasStages v names → HasStages v others → names ≡ others
one_stages v names others one two =
    let both : Some (array (texts names)) ≡ Some (array (texts others)) = sym one ∙ two in
    let same : texts names ≡ texts others = cc (both) in
    same_texts names others same

-- so where names were read, others are there exactly if they are the same
pub told_by_names : (v : Data) (names others : List Bytes) (b : Bool) → HasStages v names → IsTrue b ↔ (names ≡ others)
    → IsTrue b ↔ HasStages v others
told_by_names v names others b has same =
    (λ t. subst (HasStages v) (same.0 t) has, λ h. same.1 (one_stages v names others has h))

-- a value without a list of names there has none
pub no_stages : (v : Data) (others : List Bytes) → ¬ HasStages v others → IsTrue false ↔ HasStages v others
no_stages v others none = (λ t. absurd (true≢false (sym t)), λ h. absurd (none h))

-- the test of names tells
pub same_names : (xs ys : List (String Global)) (b : Bool) → b ≡ pointwise string_eq xs ys → IsTrue b
    ↔ (bytes_of xs ≡ bytes_of ys)
same_names xs ys b is = slice_eq-Decides bytes_eq-Decides (bytes_of xs) (bytes_of ys) b
    (is ∙ sym (pointwise-map string_bytes bytes_eq xs ys))
