-- The document that an index makes of values with the words that rules keep is the one that is added under these rules.
use Rattle.std.proofs.Common.{◌≡◌, ℕ, zero, suc, List, [], ◌∷◌, map, Option, None, Some, slice_get, IfSome, IsSomeAnd}
use Rattle.std.proofs.Common.{option_map, sym, ap, subst, ◌∙◌, refl, filter, Bool, true, false, ◌&&◌, ◌==◌, is_none, length}
use Rattle.std.proofs.Common.{if◌then◌else◌, arith}
use Rattle.std.proofs.lemmas.Bool.{eqb-true}
use Rattle.std.specs.Option.{option_map_or}
use Rattle.std.proofs.lemmas.Option.{slice_get-map}
use Rattle.std.specs.List.{zip}
use Rattle.std.specs.Str.{chars}
use Rattle.elasticlunr_text.specs.Text.{Text, Bytes}
use Rattle.elasticlunr_lang.specs.declared.any.AnyLanguage.{AnyLanguage}
use Rattle.elasticlunr.specs.Documents.{IsDocument, IsGiven}
use Rattle.elasticlunr.specs.GivenTokens.{MayHave, MayHaveAt, value_texts}
use Rattle.elasticlunr.specs.History.{Document, Given}
use Rattle.elasticlunr.specs.Reading.{LanguageLeaves, LanguageReads}
use Rattle.elasticlunr.specs.Words.{words}
use Rattle.elasticlunr.specs.declared.values.FieldValue.{FieldValue}
use Rattle.elasticlunr.specs.declared.values.TokenSource.{TokenSource}
use Rattle.elasticlunr.specs.declared.values.TokenSource.TheVariants.{AsGiven, FromText, IntoPipeline}
use Rattle.elasticlunr.specs.Fields.{has_name}
use Rattle.elasticlunr_job.specs.Commands.{IsAddedBy, is_short, kept_at, kept_words, ReadsBy}
use Rattle.elasticlunr_job.specs.Given.{AreGiven, IsSourceOf, chosen_lists, keeps_all, kept_lists}
use Rattle.elasticlunr_job_format.specs.Job as asked
use Rattle.elasticlunr_job_format.specs.Job.{Job}
use Rattle.elasticlunr_job_format.specs.Rules.{WordRules, stems_by}
use Rattle.elasticlunr_stem_stage.specs.Stemmed.{leaves_with}

some_more : {X : Type 0} (o : Option X) (P Q : X → Type 0) → ((x : X) → P x → Q x) → IsSomeAnd o P → IsSomeAnd o Q
some_more None P Q more h = absurd h
some_more (Some x) P Q more h = more x h

module _ (fields : List Bytes) (reference_field : Bytes) (reads other : ℕ → Bytes → List Text → Type 0)
    (values : List Bytes)
    (more : (i : ℕ) (text : Bytes) (tokens : List Text) → slice_get values i ≡ Some text → reads i text tokens
    → other i text tokens) where
  one_more : (i : ℕ) (there : Option Given) → option_map (λ given. given.value) there ≡ slice_get values i
      → IfSome there (IsGiven fields reference_field reads i) → IfSome there (IsGiven fields reference_field other i)
  one_more i None same h = tt
  one_more i (Some given) same h = record {
    of_reference = h.of_reference;
    of_value = λ no. some_more given.tokens (reads i given.value) (other i given.value)
        (λ tokens. more i given.value tokens (sym same)) (h.of_value no);
  }

  -- what reads more of these values makes the document, too
  document_more : (reference : Bytes) (document : Document) → IsDocument fields reference_field reads reference values document
      → IsDocument fields reference_field other reference values document
  document_more reference document is = record {
    its_reference = is.its_reference;
    its_values = is.its_values;
    each = λ i. one_more i (slice_get document.given i)
        (sym (slice_get-map (λ (given : Given). given.value) document.given i)
        ∙ ap (λ vs. slice_get vs i) is.its_values) (is.each i);
  }

-- `R` relates a token to what stages may make of it.
module _ (R : Text → Option Text → Type 0) where
  abbrev Has : TokenSource → ℕ → Bytes → List Text → Type 0
  Has = MayHave (LanguageReads words R) (LanguageLeaves R)

  -- the tokens of a text that comes with these words, or with none
  abbrev Reads : Option (List Text) → ℕ → Bytes → List Text → Type 0
  Reads None = LanguageReads words R
  Reads (Some kept) = λ i text tokens. LanguageLeaves R kept tokens

  of_source : (kept : Option (List Text)) (source : TokenSource) (i : ℕ) (text : Bytes) (tokens : List Text)
      → IsSourceOf kept source → Has source i text tokens → Reads kept i text tokens
  of_source None FromText i text tokens is has = has
  of_source None (IntoPipeline given) i text tokens is has = absurd is
  of_source None (AsGiven given) i text tokens is has = absurd is
  of_source (Some kept) FromText i text tokens is has = absurd is
  of_source (Some kept) (IntoPipeline given) i text tokens is has =
      subst (λ made. LanguageLeaves R made tokens) is has.left
  of_source (Some kept) (AsGiven given) i text tokens is has = absurd is

  of_value : (kept : Option (List Text)) (there : Option FieldValue) (i : ℕ) (text : Bytes) (tokens : List Text)
      → IfSome there (λ value. IsSourceOf kept value.tokens)
      → IsSomeAnd there (λ value. Has value.tokens i text tokens) → Reads kept i text tokens
  of_value kept None i text tokens is has = absurd has
  of_value kept (Some value) i text tokens is has = of_source kept value.tokens i text tokens is has

  left_of_words : (i : ℕ) (text : Bytes) (tokens : List Text) → LanguageReads words R i text tokens
      → LanguageLeaves R (words (chars text)) tokens
  left_of_words i text tokens h = record { lefts = h.lefts; each = h.each; are = h.are }

  same_some : {X : Type 0} (x y : X) → Some x ≡ Some y → x ≡ y
  same_some x y e = cc

  -- the words at a place are those that the rules keep of the text there
  of_kept : (rules : WordRules) (fields texts : List Bytes) (place i : ℕ) (text : Bytes) (tokens : List Text)
      → slice_get texts place ≡ Some text
      → Reads (slice_get (map (λ both. kept_words rules both.0 both.1) (zip fields texts)) place) i text tokens
      → LanguageLeaves R (kept_at rules fields place text) tokens
  of_kept rules [] texts place i text tokens there h = left_of_words i text tokens h
  of_kept rules (field ∷ fields) [] place i text tokens there h = cc
  of_kept rules (field ∷ fields) (first ∷ texts) zero i text tokens there h =
      subst (λ t. LanguageLeaves R (kept_words rules field t) tokens)
      (same_some first text there) h
  of_kept rules (field ∷ fields) (first ∷ texts) (suc place) i text tokens there h =
      of_kept rules fields texts place i text tokens there h

  short_all : (ws : List Text) → filter (is_short None) ws ≡ ws
  short_all [] = refl
  short_all (w ∷ ws) = ap (λ left. w ∷ left) (short_all ws)

  -- rules that keep all keep the words of a text
  all_words : (stored : List Bytes) (longest : Option ℕ) (field : Bytes) (ws : List Text)
      → is_none longest && (length stored == 0) ≡ true
      → (if has_name field stored then [] else filter (is_short longest) ws) ≡ ws
  all_words [] None field ws all = short_all ws
  all_words [] (Some most) field ws all = cc
  all_words (name ∷ stored) None field ws all =
      let none : suc (length stored) ≡ 0 = eqb-true (suc (length stored)) 0 all in
      absurd (omega (arith, none))
  all_words (name ∷ stored) (Some most) field ws all = cc

  all_at : (rules : WordRules) (there : Option Bytes) (text : Bytes) → keeps_all rules ≡ true
      → option_map_or (λ field. kept_words rules field text) there (words (chars text)) ≡ words (chars text)
  all_at rules None text all = refl
  all_at rules (Some field) text all = all_words rules.stored rules.longest field (words (chars text)) all

  -- the words of a text under rules, whether they keep all or choose
  of_rules : (rules : WordRules) (fields texts : List Bytes) (i : ℕ) (text : Bytes) (tokens : List Text) (all : Bool)
      → keeps_all rules ≡ all → slice_get texts i ≡ Some text
      → Reads (slice_get (if all then [] else chosen_lists rules fields texts) i) i text tokens
      → LanguageLeaves R (kept_at rules fields i text) tokens
  of_rules rules fields texts i text tokens true all there h =
      subst (λ made. LanguageLeaves R made tokens) (sym (all_at rules (slice_get fields i) text all))
      (left_of_words i text tokens h)
  of_rules rules fields texts i text tokens false all there h = of_kept rules fields texts i i text tokens there h

-- what the stages of a language make of a token under rules
abbrev pub leaves_under : Option WordRules → AnyLanguage → Text → Option Text → Type 0
leaves_under rules language = leaves_with (stems_by rules) language

module _ (language : AnyLanguage) where
  read_under : (rules : Option WordRules) (fields texts : List Bytes) (i : ℕ) (text : Bytes) (tokens : List Text)
      → slice_get texts i ≡ Some text
      → Reads (leaves_under rules language) (slice_get (kept_lists rules fields texts) i) i text tokens
      → ReadsBy rules fields language i text tokens
  read_under None fields texts i text tokens there h = h
  read_under (Some rules) fields texts i text tokens there h =
      of_rules (leaves_with rules.stems language) rules fields texts i text tokens (keeps_all rules) refl there h

  pub added_under : (rules : Option WordRules) (job : Job) (doc : asked.Document) (handed : List FieldValue)
      (document : Document) → AreGiven doc.values (kept_lists rules job.fields doc.values) handed
      → IsDocument job.fields job.reference_field (MayHaveAt (LanguageReads words (leaves_under rules language))
      (LanguageLeaves (leaves_under rules language)) handed) doc.reference (value_texts handed) document
      → IsAddedBy rules job language doc document
  added_under rules job doc handed document are made =
      let R = leaves_under rules language in
      document_more job.fields job.reference_field (MayHaveAt (LanguageReads words R) (LanguageLeaves R) handed)
      (ReadsBy rules job.fields language) doc.values
      (λ i text tokens there has. read_under rules job.fields doc.values i text tokens there
      (of_value R (slice_get (kept_lists rules job.fields doc.values) i) (slice_get handed i) i text tokens
      (are.sources i) has)) doc.reference document
      (subst (λ texts. IsDocument job.fields job.reference_field
      (MayHaveAt (LanguageReads words R) (LanguageLeaves R) handed) doc.reference texts document) are.texts_are made)
