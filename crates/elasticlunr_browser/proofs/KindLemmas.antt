-- Stages of a pipeline by their kinds, and what a script holds of languages, as a loop puts it together.
use Rattle.std.proofs.Common.{◌≡◌, ◌↔◌, ◌<◌, ◌+◌, ℕ, length, take, get_or, List, [], ◌∷◌, ◌++◌, Option, Some, None}
use Rattle.std.proofs.Common.{MatchOption, IsTrue, true, false, map, string_bytes, Result, Ok, Err, refl, sym, ap, subst, ◌∙◌}
use Rattle.std.proofs.Common.{option_map, option_to_list}
use Rattle.std.specs.List.{AllZip, AllByRecursion}
use Rattle.std.specs.Str.{all_scalars}
use Rattle.std.specs.declared.alloc.Global.{Global}
use Rattle.std.specs.declared.dyn_box.DynBox.{DynBox}
use Rattle.std.proofs.lemmas.List.{append-nil, append_assoc, map-append, take_more}
use Rattle.std.specs.Prelude.{OnOk, if◌then◌else◌}
use Rattle.std.specs.Result.{is_ok}
use Rattle.serde_json.specs.Data.{Data}
use Rattle.serde_json.specs.View.{view}
use Rattle.serde_json.specs.declared.value.Value.{Value}
use Rattle.elasticlunr_text.specs.Text.{Text, Bytes}
use Rattle.elasticlunr_text.specs.Stages.{IsKnown, MayLeave, MayLeaveAll, stage_name}
use Rattle.elasticlunr_text.specs.declared.pipeline.stage.Stage.{Stage}
use Rattle.elasticlunr_text.specs.declared.pipeline.stage.Stage.TheVariants.{EnglishTrimmer, StopWords, Class}
use Rattle.elasticlunr_text.specs.declared.pipeline.stage.Stage.TheVariants.{EnglishStemmer, ArabicStemmer, Keep}
use Rattle.elasticlunr_text.specs.declared.pipeline.stage.Stage.TheVariants.{Function, Own, TableStemmer}
use Rattle.elasticlunr_browser.specs.Languages.{is_english, script_stages, script_leaves}
use Rattle.elasticlunr_browser.specs.declared.language.ScriptLanguage.{ScriptLanguage}
use Rattle.elasticlunr_browser.specs.declared.language.ScriptLanguage.TheVariants.{BuiltIn}
use Rattle.elasticlunr_lang.specs.declared.any.AnyLanguage.TheVariants.{English}
use Rattle.elasticlunr_browser.specs.Kinds.{Kind, english_trimmer, stop_words, trimmer, english_stemmer, arabic_stemmer, table_stemmer}
use Rattle.elasticlunr_browser.specs.Kinds.{keep, kind_name, kind_of, KindLeaves, KindsLeave, HoldsKind, HoldsKinds}
use Rattle.elasticlunr_browser.specs.Kinds.{HoldsStage, HoldsStages, AreStagesOf, HoldsLanguage, HoldsLanguages}
use Rattle.elasticlunr_browser.specs.Stemmers.{stemmer_of}
use Rattle.elasticlunr_browser.proofs.StageLemmas.{viewed}

-- what one stage leaves, the others take up alike
go_on : (P Q : Text → Type 0) (left first : Option Text) → ((t : Text) → P t → Q t) → MatchOption first (left ≡ None) P
    → MatchOption first (left ≡ None) Q
go_on P Q left None same h = h
go_on P Q left (Some t) same h = same t h

module _ {f x p calls : _} (name_text : DynBox x Global p → Bytes) (leaves : DynBox x Global p → Text → Option Text)
  where
    -- the stage has the name of the kind, and leaves what it leaves
    record IsOf (stage : Stage f x p calls) (kind : Kind) : Type 0 where
      kind_is : kind_of stage ≡ Some kind
      name_is : kind_name kind ≡ stage_name name_text stage
      leaves_as : (token : Text) (left : Option Text) → KindLeaves kind token left ↔ MayLeave leaves stage token left

    its_kind : (stage : Stage f x p calls) → IsKnown stage → (kind : Kind) × IsOf stage kind
    its_kind EnglishTrimmer known = (
      english_trimmer,
      record { kind_is = refl; name_is = refl; leaves_as = λ token left. (λ h. h, λ h. h) },
    )
    its_kind (StopWords filter) known = (
      stop_words filter,
      record { kind_is = refl; name_is = refl; leaves_as = λ token left. (λ h. h, λ h. h) },
    )
    its_kind (Class class) known = (
      trimmer class,
      record { kind_is = refl; name_is = refl; leaves_as = λ token left. (λ h. h, λ h. h) },
    )
    its_kind EnglishStemmer known = (
      english_stemmer,
      record { kind_is = refl; name_is = refl; leaves_as = λ token left. (λ h. h, λ h. h) },
    )
    its_kind ArabicStemmer known = (
      arabic_stemmer,
      record { kind_is = refl; name_is = refl; leaves_as = λ token left. (λ h. h, λ h. h) },
    )
    its_kind (TableStemmer stemmer) known = (
      table_stemmer stemmer,
      record { kind_is = refl; name_is = refl; leaves_as = λ token left. (λ h. h, λ h. h) },
    )
    its_kind (Keep name) known = (
      keep (string_bytes name),
      record { kind_is = refl; name_is = refl; leaves_as = λ token left. (λ h. h, λ h. h) },
    )
    its_kind (Function wrapper) known = absurd known
    its_kind (Own step) known = absurd known

    their_kinds : (stages : List (Stage f x p calls)) → AllByRecursion IsKnown stages → (kinds : List Kind)
        × AllZip IsOf stages kinds
    their_kinds [] known = ([], tt)
    their_kinds (stage ∷ stages) known =
        let its = its_kind stage known.0 in
        let others = their_kinds stages known.1 in
        (its.0 ∷ others.0, (its.1, others.1))

    same_names : (stages : List (Stage f x p calls)) (kinds : List Kind) → AllZip IsOf stages kinds → map kind_name kinds
        ≡ map (stage_name name_text) stages
    same_names [] [] are = refl
    same_names [] (kind ∷ kinds) are = absurd are
    same_names (stage ∷ stages) [] are = absurd are
    same_names (stage ∷ stages) (kind ∷ kinds) are =
        ap (λ name. name ∷ map kind_name kinds) are.0.name_is ∙ ap (λ names. stage_name name_text stage ∷ names)
        (same_names stages kinds are.1)

    leave_same : (stages : List (Stage f x p calls)) (kinds : List Kind) → AllZip IsOf stages kinds
        → (token : Text) (left : Option Text) → KindsLeave kinds token left ↔ MayLeaveAll leaves stages token left
    leave_same [] [] are token left = (λ h. h, λ h. h)
    leave_same [] (kind ∷ kinds) are token left = absurd are
    leave_same (stage ∷ stages) [] are token left = absurd are
    leave_same (stage ∷ stages) (kind ∷ kinds) are token left = (
      λ h. (
        h.0,
        (are.0.leaves_as token h.0).0 h.1,
        go_on (λ t. KindsLeave kinds t left)
            (λ t. MayLeaveAll leaves stages t left) left h.0 (λ t. (leave_same stages kinds are.1 t left).0) h.2,
      ),
      λ h. (
        h.0,
        (are.0.leaves_as token h.0).1 h.1,
        go_on (λ t. MayLeaveAll leaves stages t left)
            (λ t. KindsLeave kinds t left) left h.0 (λ t. (leave_same stages kinds are.1 t left).1) h.2,
      ),
    )

    same_held : (stages : List (Stage f x p calls)) (kinds : List Kind) (each : List (Option Data))
        → AllZip IsOf stages kinds → AllZip HoldsStage stages each → AllZip HoldsKind kinds each
    same_held [] [] [] are held = tt
    same_held [] [] (d ∷ each) are held = absurd held
    same_held [] (kind ∷ kinds) each are held = absurd are
    same_held (stage ∷ stages) [] each are held = absurd are
    same_held (stage ∷ stages) (kind ∷ kinds) [] are held = absurd held
    same_held (stage ∷ stages) (kind ∷ kinds) (d ∷ each) are held = (
      subst (λ found. MatchOption found (d ≡ None) (λ kind. HoldsKind kind d)) are.0.kind_is held.0,
      same_held stages
          kinds each are.1 held.1,
    )

    -- what is held of a pipeline's stages is held of stages of the language, where the pipeline has its names and leaves
    -- what it leaves
    pub held_of : (language : ScriptLanguage) (stages : List (Stage f x p calls)) (ds : List Data)
        → map (stage_name name_text) stages ≡ script_stages language
        → ((token : Text) (left : Option Text) → IsTrue (all_scalars token) → MayLeaveAll leaves stages token left
        ↔ script_leaves language token left)
        → AllByRecursion IsKnown stages → HoldsStages stages ds → (kinds : List Kind) × AreStagesOf language kinds
        × HoldsKinds kinds ds
    held_of language stages ds names leave known held =
        let found = their_kinds stages known in (
          found.0,
          record {
            names = same_names stages found.0 found.1 ∙ names;
            leave = λ token left scalars. (
              λ h. (leave token left scalars).0 ((leave_same stages found.0 found.1 token left).0 h),
              λ h. (leave_same stages found.0 found.1 token left).1 ((leave token left scalars).1 h),
            );
          },
          (held.0, same_held stages found.0 held.0 found.1 held.1, held.2),
        )

-- a stemmer behind the values of the stages, where there is one
pub with_stemmer : (old new : List Value) (found : Option Value) (stemmer : Option Data) → option_map view found
    ≡ stemmer → new ≡ old ++ option_to_list found → map view new ≡ map view old ++ option_to_list stemmer
with_stemmer old new found stemmer is put =
    ap (map view) put ∙ map-append view old (option_to_list found)
    ∙ ap (λ ds. map view old ++ ds) (viewed found ∙ ap option_to_list is)

-- of English a script holds nothing
pub holds_none : (language : ScriptLanguage) → is_english language ≡ true → HoldsLanguage language []
holds_none (BuiltIn English) is = refl
holds_none language is = absurd (cc (is))

-- of another language that is all
pub holds_language : (language : ScriptLanguage) (ds : List Data) → is_english language ≡ false → (kinds : List Kind)
    × (its : List Data) × AreStagesOf language kinds × HoldsKinds kinds its
    × (ds ≡ its ++ option_to_list (stemmer_of language)) → HoldsLanguage language ds
holds_language (BuiltIn English) ds other h = absurd (cc (other))
holds_language language ds other h = h

-- one language more
one_more : (languages : List ScriptLanguage) (language : ScriptLanguage) (ds its : List Data) → HoldsLanguages languages ds
    → HoldsLanguage language its → HoldsLanguages (languages ++ language ∷ []) (ds ++ its)
one_more [] language ds its held is = (its, [], is, refl, ap (λ old. old ++ its) held ∙ sym (append-nil its))
one_more (first ∷ languages) language ds its held is = (
  held.0,
  held.1 ++ its,
  held.2,
  one_more languages language held.1 its held.3 is,
  ap (λ old. old ++ its) held.4
      ∙ append_assoc held.0 held.1 its,
)

pub one_language : (languages : List ScriptLanguage) (i : ℕ) (d : ScriptLanguage) (old new its : List Data)
    → i < length languages → HoldsLanguages (take i languages) old → HoldsLanguage (get_or languages i d) its → new
    ≡ old ++ its → HoldsLanguages (take (i + 1) languages) new
one_language languages i d old new its inside held is put =
    subst (λ ls. HoldsLanguages ls new) (sym (take_more languages i d inside))
    (subst (HoldsLanguages (take i languages ++ get_or languages i d ∷ [])) (sym put)
    (one_more (take i languages) (get_or languages i d) old its held is))

-- what is appended is held
pub appended : {F : Type 0} (r : Result (Unit {0}) F) (language : ScriptLanguage) (old new its : List Value) → new
    ≡ (if is_ok r then old ++ its else old) → HoldsLanguage language (map view its)
    → OnOk r ((ds : List Data) × HoldsLanguage language ds × (map view new ≡ map view old ++ ds))
appended (Ok done) language old new its put held = (map view its, held, ap (map view) put ∙ map-append view old its)
appended (Err e) language old new its put held = tt
