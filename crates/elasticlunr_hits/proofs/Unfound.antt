-- Why there are no lines of what is asked for.
use Rattle.std.proofs.Common.{◌≡◌, ◌⊎◌, ◌∙◌, ap, inl, inr, List, None, false, sym}
use Rattle.std.specs.Prelude.{Contains}
use Rattle.elasticlunr_text.specs.Text.{Bytes}
use Rattle.elasticlunr.specs.Fields.{has_name}
use Rattle.elasticlunr_search.specs.Fields.{IsIndexWith}
use Rattle.elasticlunr_search.specs.Readers.{ReadsAs}
use Rattle.elasticlunr_search.specs.Unanswered.{IsTextNotSearched, refusal_of}
use Rattle.elasticlunr_search.specs.declared.answer.Refusal.{Refusal}
use Rattle.elasticlunr_search.specs.declared.answer.Refusal.TheVariants as refusal
use Rattle.elasticlunr_search.specs.declared.error.SearchError.{SearchError}
use Rattle.elasticlunr_search.specs.declared.error.SearchError.TheVariants.{Memory, NoSuchField}
use Rattle.elasticlunr_hits.specs.Asked.{searched}
use Rattle.elasticlunr_hits.specs.InText.{IsNotFoundIn}
use Rattle.elasticlunr_hits.specs.declared.asked.Asked.{Asked}
use Rattle.serde_json.specs.Data.{Data}

-- a text that is not searched has no lines
pub unsearched : (text : Bytes) (asked : Asked) (e : Refusal) → IsTextNotSearched text None e → IsNotFoundIn text asked e
unsearched text asked refusal.NotARequest why = why
unsearched text asked refusal.NotRead why = why
unsearched text asked refusal.TooDeep why = why
unsearched text asked refusal.UnknownLanguage why = why
unsearched text asked refusal.OtherPipeline why = why
unsearched text asked refusal.NoFields why = why
unsearched text asked refusal.NoTries why = why
unsearched text asked refusal.NoStore why = why
unsearched text asked refusal.NoSuchField why = absurd (why.2)
unsearched text asked refusal.Memory why = why

-- a searcher of the index that a text has refuses it for a field that it lacks, or memory runs out
pub refused_hits : (text : Bytes) (asked : Asked) (v : Data) → ReadsAs text v → (fields : List Bytes)
    → IsIndexWith v fields → (e : SearchError) → (e ≡ NoSuchField) ⊎ (e ≡ Memory)
    → (e ≡ NoSuchField → (name : Bytes) × Contains (searched asked fields) name × (has_name name fields ≡ false))
    → IsNotFoundIn text asked (refusal_of e)
refused_hits text asked v reads fields index e only lacks = elim only [
  | inl n ↦ rw n (v, reads, fields, index, (lacks n).0, (lacks n).1, (lacks n).2)
  | inr m ↦ rw m tt
]

-- what a search of it refuses is not its stages
pub hits_apart : (e : SearchError) → (e ≡ NoSuchField) ⊎ (e ≡ Memory) → ¬ (refusal_of e ≡ refusal.OtherPipeline)
hits_apart e only is = elim only [
  | inl n ↦ (let wrong : refusal.NoSuchField ≡ refusal.OtherPipeline = ap refusal_of (sym n) ∙ is in cc (wrong))
  | inr m ↦ (let wrong : refusal.Memory ≡ refusal.OtherPipeline = ap refusal_of (sym m) ∙ is in cc (wrong))
]
