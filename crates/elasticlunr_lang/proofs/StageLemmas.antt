-- On what the stages of the built-in languages leave.
use Rattle.std.proofs.Common.{◌≡◌, ℕ, Bool, List, [], ◌∷◌, ◌++◌, Option, Some, None, MatchOption, IsSomeAnd, IsTrue}
use Rattle.std.proofs.Common.{◌↔◌, if◌then◌else◌, option_and_then, String, refl, sym, ap, ◌∙◌, subst}
use Rattle.std.proofs.Math.Path.{fun_ext}
use Rattle.std.specs.Str.{all_scalars}
use Rattle.std.specs.declared.alloc.Global.{Global}
use Rattle.std.specs.declared.dyn_box.DynBox.{DynBox}
use Rattle.elasticlunr_text.specs.Text.{Text}
use Rattle.elasticlunr_text.specs.StopWords.{HasWords, without}
use Rattle.elasticlunr_text.specs.Trimmed.{trimmed, unless_empty, is_word_char}
use Rattle.elasticlunr_text.specs.Trimmers.{keeps, cut_to_class}
use Rattle.elasticlunr_text.specs.Stems.{Stem}
use Rattle.elasticlunr_text.specs.Stages.{MayLeaveAll}
use Rattle.elasticlunr_text.specs.declared.lang.common.stop_words.StopWordFilter.{StopWordFilter}
use Rattle.elasticlunr_text.specs.declared.lang.common.trimmer.RegexTrimmer.{RegexTrimmer}
use Rattle.elasticlunr_text.specs.declared.pipeline.stage.Stage.{Stage}
use Rattle.elasticlunr_text.specs.declared.pipeline.stage.Stage.TheVariants.{EnglishTrimmer, StopWords, Class}
use Rattle.elasticlunr_text.specs.declared.pipeline.stage.Stage.TheVariants.{EnglishStemmer, Keep}
use Rattle.elasticlunr_text.proofs.ScalarLemmas.{scalars-trimmed}
use Rattle.elasticlunr_lang.specs.Classes.{unless_listed, class_leaves}
use Rattle.elasticlunr_lang.specs.Languages.{StemOf}

without-words : (filter : StopWordFilter) (words : List Text) (token : Text) → HasWords filter words
    → IsTrue (all_scalars token) → without filter token ≡ unless_listed words token
without-words filter words token has scalar = ap (λ b. if b then None else Some token) (has token scalar)

-- a last stage that stems what is left
abbrev Stemmed : Option Text → Option Text → Type 0
Stemmed text left = MatchOption text (left ≡ None) (λ t. (stem : Option Text) × IsSomeAnd stem (Stem t)
    × MatchOption stem (left ≡ None) (λ u. left ≡ Some u))

Stemmed-StemOf : (text left : Option Text) → Stemmed text left ↔ StemOf text left
Stemmed-StemOf None left = (λ e. e, λ e. e)
Stemmed-StemOf (Some t) left = (there, back left)
  where
    there : Stemmed (Some t) left → IsSomeAnd left (Stem t)
    there (None, is, same) = absurd is
    there (Some u, is, same) = subst (λ l. IsSomeAnd l (Stem t)) (sym same) is

    back : (left : Option Text) → IsSomeAnd left (Stem t) → Stemmed (Some t) left
    back None is = absurd is
    back (Some u) is = (Some u, is, refl)

-- a trimmer of a class, and stop words
module _ (filter : StopWordFilter) (words : List Text) (has : HasWords filter words) where
  -- what the filter leaves of a text is left
  abbrev Listed : Text → Option Text → Type 0
  Listed t left = (kept : Option Text) × (kept ≡ without filter t) × MatchOption kept (left ≡ None) (λ u. left ≡ Some u)

  last : (kept left : Option Text) → MatchOption kept (left ≡ None) (λ u. left ≡ Some u) ↔ (left ≡ kept)
  last None left = (λ e. e, λ e. e)
  last (Some u) left = (λ e. e, λ e. e)

  Listed-same : (t : Text) (left : Option Text) → IsTrue (all_scalars t) → Listed t left
      ↔ (left ≡ unless_listed words t)
  Listed-same t left scalar = (
    λ listed.
        (last (unless_listed words t) left).0
        (subst (λ kept. MatchOption kept (left ≡ None) (λ u. left ≡ Some u)) (listed.1
        ∙ without-words filter words t has scalar) listed.2),
    λ e. (
      unless_listed words t,
      sym (without-words filter words t has scalar),
      (last (unless_listed words t) left).1
          e,
    ),
  )

  cut-Listed : (t : Text) (left : Option Text) → IsTrue (all_scalars t)
      → MatchOption (unless_empty t) (left ≡ None) (λ u. Listed u left)
      ↔ (left ≡ option_and_then (unless_listed words) (unless_empty t))
  cut-Listed [] left scalar = (λ e. e, λ e. e)
  cut-Listed (c ∷ cs) left scalar = Listed-same (c ∷ cs) left scalar

  class-Listed : (trimmer : RegexTrimmer) (in_class : ℕ → Bool) (token : Text) (left : Option Text)
      → ((c : ℕ) → keeps trimmer c ≡ in_class c) → IsTrue (all_scalars token)
      → ((cut : Option Text) × (cut ≡ cut_to_class trimmer token)
      × MatchOption cut (left ≡ None) (λ u. Listed u left)) ↔ class_leaves in_class words token left
  class-Listed trimmer in_class token left same scalar = (
    λ all.
        (cut-Listed (trimmed in_class token) left (scalars-trimmed in_class token scalar)).0
        (subst (λ cut. MatchOption cut (left ≡ None) (λ u. Listed u left)) (all.1 ∙ cuts) all.2),
    λ e. (
      unless_empty (trimmed in_class token),
      sym cuts,
      (cut-Listed (trimmed in_class token) left (scalars-trimmed in_class token scalar)).1 e,
    ),
  )
    where
      cuts : cut_to_class trimmer token ≡ unless_empty (trimmed in_class token)
      cuts = ap (λ test. unless_empty (trimmed test token)) (fun_ext same)

module _ {f x p calls : _} (leaves : DynBox x Global p → Text → Option Text) where
  -- trimmer, stop words, stemmer
  pub english-leaves : (stages : List (Stage f x p calls)) (filter : StopWordFilter) (words : List Text) → stages
      ≡ EnglishTrimmer ∷ StopWords filter ∷ EnglishStemmer ∷ [] → HasWords filter words
      → (token : Text) (left : Option Text) → IsTrue (all_scalars token) → MayLeaveAll leaves stages token left
      ↔ StemOf (unless_listed words (trimmed is_word_char token)) left
  english-leaves stages filter words e has token left scalar = (there, back)
    where
      cut : Text
      cut = trimmed is_word_char token

      kept : without filter cut ≡ unless_listed words cut
      kept = without-words filter words cut has (scalars-trimmed is_word_char token scalar)

      others : List (Stage f x p calls)
      others = StopWords filter ∷ EnglishStemmer ∷ []

      there : MayLeaveAll leaves stages token left → StemOf (unless_listed words cut) left
      there all =
          let (first, is_cut, rest) = subst (λ (s : List (Stage f x p calls)). MayLeaveAll leaves s token left) e all in
          let more = subst (λ o. MatchOption o (left ≡ None) (λ t. MayLeaveAll leaves others t left)) is_cut rest in
          (Stemmed-StemOf (unless_listed words cut) left).0 (subst (λ o. Stemmed o left) (more.1 ∙ kept) more.2)

      back : StemOf (unless_listed words cut) left → MayLeaveAll leaves stages token left
      back stem =
          subst (λ (s : List (Stage f x p calls)). MayLeaveAll leaves s token left) (sym e)
          (Some cut, refl, (unless_listed words cut, sym kept, (Stemmed-StemOf (unless_listed words cut) left).1 stem))

  -- a class and stop words
  pub class-leaves : (stages : List (Stage f x p calls)) (trimmer : RegexTrimmer) (filter : StopWordFilter)
      (in_class : ℕ → Bool) (words : List Text) → stages ≡ Class trimmer ∷ StopWords filter ∷ []
      → ((c : ℕ) → keeps trimmer c ≡ in_class c) → HasWords filter words → (token : Text) (left : Option Text)
      → IsTrue (all_scalars token) → MayLeaveAll leaves stages token left ↔ class_leaves in_class words token left
  class-leaves stages trimmer filter in_class words e same has token left scalar =
      rw e (class-Listed filter words has trimmer in_class token left same scalar)

  -- a last stage that keeps every token leaves what the stages before it leave
  all-keep : (stages : List (Stage f x p calls)) (name : String Global) (token : Text) (left : Option Text)
      → MayLeaveAll leaves stages token left → MayLeaveAll leaves (stages ++ Keep name ∷ []) token left
  all-keep [] name token left same = (Some token, refl, same)
  all-keep (stage ∷ stages) name token left (None, one, others) = (None, one, others)
  all-keep (stage ∷ stages) name token left (Some u, one, others) = (Some u, one, all-keep stages name u left others)

  keep-all : (stages : List (Stage f x p calls)) (name : String Global) (token : Text) (left : Option Text)
      → MayLeaveAll leaves (stages ++ Keep name ∷ []) token left → MayLeaveAll leaves stages token left
  keep-all [] name token left all = subst (λ kept. MatchOption kept (left ≡ None) (λ u. left ≡ Some u)) all.1 all.2
  keep-all (stage ∷ stages) name token left (None, one, others) = (None, one, others)
  keep-all (stage ∷ stages) name token left (Some u, one, others) = (Some u, one, keep-all stages name u left others)

  pub keep-leaves : (stages more : List (Stage f x p calls)) (name : String Global) (R : Text → Option Text → Type 0)
      → more ≡ stages ++ Keep name ∷ [] → ((token : Text) (left : Option Text) → IsTrue (all_scalars token)
      → MayLeaveAll leaves stages token left ↔ R token left) → (token : Text) (left : Option Text)
      → IsTrue (all_scalars token) → MayLeaveAll leaves more token left ↔ R token left
  keep-leaves stages more name R e same token left scalar =
      rw e (
        λ all. (same token left scalar).0 (keep-all stages name token left all),
        λ holds. all-keep stages name token
            left ((same token left scalar).1 holds),
      )
