-- Which language a value names.
use Rattle.std.proofs.Common.{◌≡◌, ◌↔◌, Bool, true, false, not, None, Some, IsTrue, true≢false, bytes_eq, codes, refl}
use Rattle.std.proofs.Common.{sym, ap, ◌∙◌}
use Rattle.std.proofs.lemmas.Slice.Eq.{bytes_eq-Decides}
use Rattle.serde_json.specs.Data.{Data, string}
use Rattle.serde_json.specs.Find.{get, as_str}
use Rattle.elasticlunr_text.specs.Text.{Bytes}
use Rattle.elasticlunr.specs.Shape.{HasLanguage}
use Rattle.elasticlunr_json.proofs.ReadingMaps.{no_string, string_of}
use Rattle.elasticlunr_print.proofs.Shapes.{one_language}
use Rattle.elasticlunr_search.specs.Refusal.{NamesOther}

-- a value without a language, or without a text there, names none
pub names_none : (v : Data) (name : Bytes) → None ≡ get (codes "lang") v → ¬ HasLanguage v name
names_none v name none is = let wrong : None ≡ Some (string name) = none ∙ is in cc (wrong)

pub names_no_text : (v d : Data) (name : Bytes) → Some d ≡ get (codes "lang") v → None ≡ as_str d → ¬ HasLanguage v name
names_no_text v d name some none is = let both : Some d ≡ Some (string name) = some ∙ is in let same : d
    ≡ string name = cc (both) in no_string d none name same

pub names_text : (v d : Data) (name : Bytes) → Some d ≡ get (codes "lang") v → Some name ≡ as_str d → HasLanguage v name
names_text v d name some text = sym some ∙ ap Some (string_of d name text)

-- a value that names none names no other
pub none_other : (language : Bytes) (v : Data) → ((name : Bytes) → ¬ HasLanguage v name) → IsTrue false
    ↔ NamesOther language v
none_other language v none = (λ t. absurd (true≢false (sym t)), λ n. absurd (none n.0 n.1))

-- the test of the name tells
pub names_one : (language name : Bytes) (v : Data) (b : Bool) → HasLanguage v name → b ≡ not (bytes_eq name language)
    → IsTrue b ↔ NamesOther language v
names_one language name v b has is = (
  λ t. (name, has, λ same. true≢false (sym t ∙ is ∙ ap not ((bytes_eq-Decides name language).1 same))),
  λ n. is ∙ apart (bytes_eq name language)
      (λ e. n.2 (sym (one_language v name n.0 has n.1) ∙ (bytes_eq-Decides name language).0 e)),
) where
  apart : (c : Bool) → (c ≡ true → ⊥) → not c ≡ true
  apart true not_so = absurd (not_so refl)
  apart false not_so = refl
