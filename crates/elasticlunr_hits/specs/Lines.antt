-- The lines of hits.
use Rattle.std.specs.Prelude.{◌≡◌, List, [], ◌∷◌, ◌++◌, map, Option, Some, None, option_map}
use Rattle.std.specs.Prelude.{unwrap_or}
use Rattle.std.specs.Prelude.{codes}
use Rattle.std.specs.FinMap.{get}
use Rattle.std.specs.Float.{Float}
use Rattle.std.specs.List.{AllZip}
use Rattle.json.specs.Lex.{tokens}
use Rattle.json.specs.Print.{print, quoted}
use Rattle.serde_json.specs.Data.{Data, null, number, string}
use Rattle.serde_json.specs.Find.{of_float}
use Rattle.serde_json.specs.Read.{read}
use Rattle.serde_json.specs.Written.{compact_text}
use Rattle.elasticlunr_text.specs.Text.{Text, Bytes}
use Rattle.elasticlunr_json.specs.Maps.{keyed}
use Rattle.elasticlunr_lang.specs.declared.any.AnyLanguage.{AnyLanguage}
use Rattle.elasticlunr_store.specs.Contents.{Contents, TextMap}
use Rattle.elasticlunr_search.specs.Lines.{lines}
use Rattle.elasticlunr_search.specs.Standing.{kept_contents}
use Rattle.elasticlunr_search.specs.declared.searcher.Searcher.{Searcher}
use Rattle.elasticlunr_hits.specs.Hits.{AreHitsOf, Told}
use Rattle.elasticlunr_hits.specs.declared.asked.Asked.{Asked}
use Rattle.elasticlunr_hits.specs.declared.lines.LineForm.{LineForm}
use Rattle.elasticlunr_hits.specs.declared.lines.LineForm.TheVariants.{References, Json}

-- a JSON text of the value without white space. A fraction has digits that are read as it.
pub record IsTextOf (v : Data) (text : Bytes) : Type 0 where
  pub compact : text ≡ print (tokens text)
  pub is_read : read text ≡ Some v

-- the value of a score: a number, or null where it is infinite or none
abbrev pub score_value : Float → Data
score_value score = unwrap_or (option_map number (of_float score)) null

-- the value of stored texts: an object, or null where there is no document
abbrev pub texts_value : Option TextMap → Data
texts_value None = null
texts_value (Some texts) = keyed string texts

-- a key with the text of its value
abbrev pub member_text : (key text : Bytes) → Bytes
member_text key text = quoted key ++ 58 ∷ text

-- the text of an object of these texts of a reference, a score and what is stored, in this order
abbrev pub object_text : (reference score document : Bytes) → Bytes
object_text reference score document = 123 ∷ member_text (codes "ref") reference
    ++ 44 ∷ member_text (codes "score") score ++ 44 ∷ member_text (codes "doc") document ++ 125 ∷ []

-- the text of an object of a hit: its reference, its score and its stored texts
pub record IsHitText (texts : Option TextMap) (hit : Told) (text : Bytes) : Type 0 where
  pub score : Bytes
  pub of_score : IsTextOf (score_value hit.1) score
  pub is : text ≡ object_text (compact_text (string hit.0)) score
      (compact_text (texts_value texts))

-- the lines of such texts of the hits, in order
abbrev pub AreJsonLines : Contents → List Told → (text : Bytes) → Type 0
AreJsonLines contents hits text = (each : List Bytes)
    × AllZip (λ hit line. IsHitText (get contents.texts hit.0) hit line) hits each
    × (text ≡ lines each)

-- the lines of the hits in this form
abbrev pub AreLinesIn : LineForm → Contents → List Told → (text : Bytes) → Type 0
AreLinesIn References contents hits text = text ≡ lines (map (λ hit. hit.0) hits)
AreLinesIn Json contents hits text = AreJsonLines contents hits text

-- the lines of the hits of what is asked for
abbrev pub AreAskedLines : {P X : Type 0} {O : X → Type 0} {p : _}
    → (leaves : (v : X) × O v → Text → Option Text) → Searcher AnyLanguage P X O p → Asked
    → LineForm → (text : Bytes) → Type 0
AreAskedLines leaves s asked form text = (hits : List Told) × AreHitsOf leaves s asked hits
    × AreLinesIn form (kept_contents s) hits text
