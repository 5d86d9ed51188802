-- What is left where a stage comes after others.
use Rattle.std.proofs.Common.{◌≡◌, ◌↔◌, List, [], ◌∷◌, ◌++◌, Option, None, Some, IsTrue, refl, sym, subst, ◌∙◌}
use Rattle.std.specs.Prelude.{IsSomeAnd, MatchOption}
use Rattle.std.specs.Str.{all_scalars, chars}
use Rattle.std.specs.declared.alloc.Global.{Global}
use Rattle.std.specs.declared.dyn_box.DynBox.{DynBox}
use Rattle.elasticlunr_text.specs.Text.{Text}
use Rattle.elasticlunr_text.specs.Stages.{MayLeave, MayLeaveAll}
use Rattle.elasticlunr_text.specs.Trimmed.{unless_empty}
use Rattle.elasticlunr_text.specs.declared.pipeline.stage.Stage.{Stage}
use Rattle.elasticlunr_text.specs.declared.pipeline.stage.Stage.TheVariants as variants
use Rattle.elasticlunr_text.specs.declared.lang.common.table_stemmer.TableStemmer.{TableStemmer}
use Rattle.elasticlunr_text.specs.TableStemmers.{table_stem}
use Rattle.elasticlunr_stems.specs.Reading.{table_in}
use Rattle.elasticlunr_stems.specs.Stems.{stem_of}
use Rattle.elasticlunr_stems.specs.Tables.{Table}
use Rattle.elasticlunr_stem_tables.specs.Languages.{table_text}
use Rattle.elasticlunr_stem_tables.specs.declared.language.Language.{Language}
use Rattle.elasticlunr_stem_tables.specs.declared.language.Version.TheVariants.{Current}
use Rattle.elasticlunr_stem_stage.specs.Stemmed.{StemmedLeaves, StemsTo}

module _ {f x : Type 0} {p : x → Type 0} {calls : _} (leaves : DynBox x Global p → Text → Option Text)
    (last : Stage f x p calls) where
  -- what the last stage may make of what the others left
  abbrev pub LastLeaves : Option Text → Option Text → Type 0
  LastLeaves first left = MatchOption first (left ≡ None) (λ word. MayLeave leaves last word left)

  -- where no stage follows
  pub left_last : (first left : Option Text) → MatchOption first (left ≡ None) (λ t. left ≡ Some t) → left ≡ first
  left_last None left is = is
  left_last (Some t) left is = is

  pub last_left : (first : Option Text) → MatchOption first (first ≡ None) (λ t. first ≡ Some t)
  last_left None = refl
  last_left (Some t) = refl

  -- what all leave is what the last one leaves of what the others leave
  abbrev pub Parts : List (Stage f x p calls) → Text → Option Text → Type 0
  Parts stages token left = (first : Option Text) × MayLeaveAll leaves stages token first × LastLeaves first left

  parts_more : (stage : Stage f x p calls) (stages : List (Stage f x p calls)) (token : Text) (left first : Option Text)
      → MayLeave leaves stage token first
      → MatchOption first (left ≡ None) (λ t. MayLeaveAll leaves (stages ++ last ∷ []) t left)
      → ((t : Text) → MayLeaveAll leaves (stages ++ last ∷ []) t left → Parts stages t left)
      → Parts (stage ∷ stages) token left
  parts_more stage stages token left None here none rest = (None, (None, here, refl), none)
  parts_more stage stages token left (Some t) here more rest = let parts = rest t more in
      (parts.0, (Some t, here, parts.1), parts.2)

  pub of_all : (stages : List (Stage f x p calls)) (token : Text) (left : Option Text)
      → MayLeaveAll leaves (stages ++ last ∷ []) token left → Parts stages token left
  of_all [] token left all =
      (Some token, refl, subst (MayLeave leaves last token) (sym (left_last all.0 left all.2)) all.1)
  of_all (stage ∷ stages) token left all = parts_more stage stages token left all.0 all.1 all.2
      (λ t more. of_all stages t left more)

  all_more : (stage : Stage f x p calls) (stages : List (Stage f x p calls)) (token : Text)
      (left first there : Option Text) → MayLeave leaves stage token there
      → MatchOption there (first ≡ None) (λ t. MayLeaveAll leaves stages t first) → LastLeaves first left
      → ((t : Text) → MayLeaveAll leaves stages t first → MayLeaveAll leaves (stages ++ last ∷ []) t left)
      → MayLeaveAll leaves (stage ∷ stages ++ last ∷ []) token left
  all_more stage stages token left first None here none then rest = (
    None,
    here,
    subst (λ o. MatchOption o (left ≡ None) (λ word. MayLeave leaves last word left)) none then,
  )
  all_more stage stages token left first (Some t) here more then rest = (Some t, here, rest t more)

  pub all_of : (stages : List (Stage f x p calls)) (token : Text) (first left : Option Text)
      → MayLeaveAll leaves stages token first → LastLeaves first left
      → MayLeaveAll leaves (stages ++ last ∷ []) token left
  all_of [] token first left all then = (
    left,
    subst (λ o. MatchOption o (left ≡ None) (λ word. MayLeave leaves last word left)) all then,
    last_left left,
  )
  all_of (stage ∷ stages) token first left all then = all_more stage stages token left first all.0 all.1 all.2 then
      (λ t more. all_of stages t first left more then)

-- a word has one stem
one_stem : (read : Option Table) (word : Text) (left other : Option Text)
    → IsSomeAnd read (λ table. left ≡ unless_empty (stem_of table word))
    → IsSomeAnd read (λ table. other ≡ unless_empty (stem_of table word)) → left ≡ other
one_stem None word left other is also = absurd is
one_stem (Some table) word left other is also = is ∙ sym also

module _ (stemmer : TableStemmer) (language : Language)
    (stems : (word : Text) → StemsTo language word (table_stem stemmer word)) where
  -- what the stemmer leaves is the stem, and nothing else is
  stem_left : (first left : Option Text) → MatchOption first (left ≡ None) (λ word. left ≡ table_stem stemmer word)
      → MatchOption first (left ≡ None) (λ word. StemsTo language word left)
  stem_left None left is = is
  stem_left (Some word) left is = subst (StemsTo language word) (sym is) (stems word)

  left_stem : (first left : Option Text) → MatchOption first (left ≡ None) (λ word. StemsTo language word left)
      → MatchOption first (left ≡ None) (λ word. left ≡ table_stem stemmer word)
  left_stem None left is = is
  left_stem (Some word) left is = one_stem (table_in (chars (table_text Current language))) word left
      (table_stem stemmer word) is (stems word)

  module _ {f x : Type 0} {p : x → Type 0} {calls : _} (leaves : DynBox x Global p → Text → Option Text)
      (stages more : List (Stage f x p calls)) (are : more ≡ stages ++ variants.TableStemmer stemmer ∷ []) where
    -- with the stemmer after them, stages leave the stems of what they leave
    pub stems_after : (R : Text → Option Text → Type 0) → ((token : Text) (left : Option Text)
        → IsTrue (all_scalars token) → MayLeaveAll leaves stages token left ↔ R token left)
        → (token : Text) (left : Option Text) → IsTrue (all_scalars token) → MayLeaveAll leaves more token left
        ↔ StemmedLeaves (Some language) R token left
    stems_after R same token left scalars = (
      λ all. let parts = of_all leaves (variants.TableStemmer stemmer) stages token left
          (subst (λ ss. MayLeaveAll leaves ss token left) are all) in (
            parts.0,
            (same token parts.0 scalars).0 parts.1,
            stem_left parts.0 left parts.2,
          ),
      λ stemmed. subst (λ ss. MayLeaveAll leaves ss token left) (sym are)
          (all_of leaves (variants.TableStemmer stemmer) stages token stemmed.0 left
          ((same token stemmed.0 scalars).1 stemmed.1) (left_stem stemmed.0 left stemmed.2)),
    )
