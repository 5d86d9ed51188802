-- What is read by the language alone.
use Rattle.std.proofs.Common.{◌≡◌, ◌≢◌, ◌<◌, ◌↔◌, ℕ, List, [], ◌∷◌, length, get_or, Option, None, Some, Result, IfOk}
use Rattle.std.proofs.Common.{IsTrue, String, Vec, Global, Bool, true, false, refl, sym, ap, subst, ◌∙◌, filter_map}
use Rattle.std.proofs.lemmas.Option.{slice_get_read}
use Rattle.std.specs.Bool.{OnTrue}
use Rattle.std.specs.List.{slice_get, AllZip, AllByRecursion}
use Rattle.std.specs.Str.{chars, all_scalars}
use Rattle.elasticlunr_text.specs.Text.{Text, Bytes, texts_of}
use Rattle.elasticlunr_text.proofs.TextLemmas.{texts_are_texts}
use Rattle.elasticlunr.specs.Choices.{Choices, IsMadeAt, Reads}
use Rattle.elasticlunr.specs.Reading.{LanguageReads}

-- what one relation leaves of texts, another does that holds wherever the one does
pub leaves_as : (M R : Text → Option Text → Type 0) → ((token : Text) (left : Option Text) → IsTrue (all_scalars token)
    → M token left → R token left)
    → (tokens : List Text) (lefts : List (Option Text)) → AllByRecursion (λ token. IsTrue (all_scalars token)) tokens
    → AllZip M tokens lefts → AllZip R tokens lefts
leaves_as M R as_R [] [] are all = tt
leaves_as M R as_R [] (left ∷ lefts) are all = absurd all
leaves_as M R as_R (token ∷ tokens) [] are all = absurd all
leaves_as M R as_R (token ∷ tokens) (left ∷ lefts) are all =
    (as_R token left are.0 all.0, leaves_as M R as_R tokens lefts are.1 all.1)

-- what is made at a place of the list of tokenizers
pub made_at : {L T E : Type 0} (tokens_of : L → Text → List Text) (answers : T → Bytes → List Text → Type 0)
    (language : L) (tokenizers : List (Option T)) (i : ℕ) (place : Option T) (value : Bytes)
    (r : Result (Vec (String Global) Global) E) → i < length tokenizers → place ≡ get_or tokenizers i place
    → IfOk r (λ made. IsMadeAt tokens_of answers language (Some place) value (texts_of made.items))
    → IfOk r (λ made. IsMadeAt tokens_of answers language (slice_get tokenizers i) value (texts_of made.items))
made_at tokens_of answers language tokenizers i place value r inside read made =
    subst (λ there. IfOk r (λ v. IsMadeAt tokens_of answers language there value (texts_of v.items)))
    (sym (slice_get_read tokenizers (length tokenizers) i place refl inside read)) made

-- where there is no tokenizer and the language makes words, words are made
pub words_at : {L T : Type 0} (tokens_of : L → Text → List Text) (answers : T → Bytes → List Text → Type 0)
    (words : Text → List Text) (language : L) (tokenizers : List (Option T)) (i : ℕ) (place : Option T)
    (b : Bool) → i < length tokenizers → place ≡ get_or tokenizers i place → place ≡ None
    → OnTrue b ((text : Text) → tokens_of language text ≡ words text)
    → OnTrue b ((value : Bytes) → IsMadeAt tokens_of answers language (slice_get tokenizers i) value
    (words (chars value)))
words_at tokens_of answers words language tokenizers i place true inside read none same = λ value.
    subst (λ there. IsMadeAt tokens_of answers language there value (words (chars value)))
    (sym (slice_get_read tokenizers (length tokenizers) i place refl inside read ∙ ap Some none))
    (sym (same (chars value)))
words_at tokens_of answers words language tokenizers i place false inside read none same = tt

module _ {L P T : Type 0} (tokens_of : L → Text → List Text) (answers : T → Bytes → List Text → Type 0)
    (c : Choices L P T) where
  -- what is made by a language, or by a tokenizer that is not there, is made by the language
  made_by_language : (place : Option (Option T)) → ((tokenizer : T) → place ≢ Some (Some tokenizer))
      → (value : Bytes) (made : List Text)
      → IsMadeAt tokens_of answers c.language place value made → made ≡ tokens_of c.language (chars value)
  made_by_language None none value made is = absurd is
  made_by_language (Some None) none value made is = is
  made_by_language (Some (Some tokenizer)) none value made is = absurd (none tokenizer refl)

  -- without tokenizers, and with a pipeline that leaves what the language's may, what is read is what the language
  -- reads
  pub read_by_language : (runs : P → List Text → List Text → Type 0) (leaves_of : Text → Option Text → Type 0)
      → ((i : ℕ) (tokenizer : T) → slice_get c.tokenizers i ≢ Some (Some tokenizer))
      → (M : Text → Option Text → Type 0) → ((made tokens : List Text) → runs c.pipeline made tokens
      → (lefts : List (Option Text)) × AllZip M made lefts × (tokens ≡ filter_map (λ left. left) lefts))
      → ((token : Text) (left : Option Text) → IsTrue (all_scalars token) → M token left → leaves_of token left)
      → (i : ℕ) (value : Bytes) (tokens : List Text) → Reads tokens_of answers runs c i value tokens
      → LanguageReads (tokens_of c.language) leaves_of i value tokens
  read_by_language runs leaves_of none M run as_language i value tokens read =
      let ran = run read.made tokens read.left in
      let made : read.made ≡ tokens_of c.language (chars value) = made_by_language (slice_get c.tokenizers i) (none i)
      value read.made read.tokenized in
      record {
        lefts = ran.0;
        each = subst (λ these. AllZip leaves_of these ran.0) made
            (leaves_as M leaves_of as_language read.made ran.0 read.are_texts ran.1);
        are = ran.2;
      }

abbrev Ran : (Text → Option Text → Type 0) → List Text → List Text → Type 0
Ran M made left = (lefts : List (Option Text)) × AllZip M made lefts × (left ≡ filter_map (λ l. l) lefts)

-- stages that leave what a language's do: what they leave of what the language makes is what it reads, and it reads
-- nothing else
module _ (M R : Text → Option Text → Type 0) (makes : Text → List Text) (same : (token : Text) (left : Option Text)
    → IsTrue (all_scalars token) → M token left ↔ R token left) where
  pub run_by_language : (i : ℕ) (text : Bytes) (made : List (String Global)) (left : List Text) → texts_of made
      ≡ makes (chars text) → Ran M (texts_of made) left → LanguageReads makes R i text left
  run_by_language i text made left is ran = record {
    lefts = ran.0;
    each = subst (λ ts. AllZip R ts ran.0) is (leaves_as M R (λ token l t. (same token l t).0) (texts_of made) ran.0
        (texts_are_texts made) ran.1);
    are = ran.2;
  }

  pub only_run_by_language : ((tokens texts others : List Text) → Ran M tokens texts → Ran M tokens others → texts
      ≡ others)
      → (i : ℕ) (text : Bytes) (made : List (String Global)) (left others : List Text) → texts_of made
      ≡ makes (chars text) → Ran M (texts_of made) left → LanguageReads makes R i text others → others ≡ left
  only_run_by_language one i text made left others is ran reads = one (texts_of made) others left (
    reads.lefts,
    leaves_as R M (λ token l t. (same token l t).1) (texts_of made) reads.lefts (texts_are_texts made)
        (subst (λ ts. AllZip R ts reads.lefts) (sym is) reads.each),
    reads.are,
  ) ran
