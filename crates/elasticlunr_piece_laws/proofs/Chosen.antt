-- The fields that options choose, over an index and over some of its pieces.
use Rattle.std.proofs.Common.{◌≡◌, ◌<◌, ◌==◌, ℕ, zero, suc, Bool, true, false, true≢false, ◌||◌, cond, List, [], ◌∷◌, length, map}
use Rattle.std.proofs.Common.{get_or, Option, Some, None, option_map, refl, sym, ap, subst, arith, bytes_eq, inl, inr, ◌⊎◌}
use Rattle.std.proofs.lemmas.Slice.Eq.{bytes_eq-Decides}
use Rattle.std.specs.Prelude.{IfSome, unwrap_or}
use Rattle.std.specs.FinMap.{get, len}
use Rattle.std.specs.List.{AllZip, cons_option, zip}
use Rattle.std.specs.Str.{chars}
use Rattle.elasticlunr_error.specs.Text.{Text, Bytes, is_listed}
use Rattle.elasticlunr_ranking.specs.Choice.{field_for, field_with, fields_for}
use Rattle.elasticlunr_ranking.specs.Fields.{Field}
use Rattle.elasticlunr_store.specs.Contents.{Contents, field_length}
use Rattle.elasticlunr_store.specs.Options.{Options}
use Rattle.elasticlunr_store.specs.declared.config.SearchBool.{SearchBool}
use Rattle.elasticlunr_store.specs.declared.config.SearchOptionsField.{SearchOptionsField}
use Rattle.elasticlunr_trie.specs.Table.{Table, postings}
use Rattle.elasticlunr_piece_laws.specs.Alike.{AreAlike, CanStandFor, LeaveExpansion}

either : (a b : Bool) → (a || b) ≡ true → (a ≡ true) ⊎ (b ≡ true)
either true b h = inl refl
either false b h = inr h

right_true : (a b : Bool) → b ≡ true → (a || b) ≡ true
right_true true b h = refl
right_true false b h = h

itself : (x : Bytes) (xs : List Bytes) → is_listed x (x ∷ xs) ≡ true
itself x xs = ap (λ b. b || is_listed x xs) ((bytes_eq-Decides x x).1 refl)

-- the tables have the same postings at each word that one of the tokens can stand for
abbrev pub HaveSame : (expand : Bool) → List Text → Table → Table → Type 0
HaveSame expand tokens table other = (token word : Text) → is_listed token tokens ≡ true
    → CanStandFor expand token word → postings table word ≡ postings other word

module _ (options : Options) (contents others : Contents) (tokens : List Text) (leave : LeaveExpansion options)
    (documents : len contents.texts ≡ len others.texts) where
  one_field : (name : Bytes) (table other : Table) (join : Option SearchBool) (expand : Option Bool) (boost : Option ℕ)
      → expand ≡ None → ((r : Bytes) → field_length contents r name ≡ field_length others r name)
      → HaveSame options.expand tokens table other
      → AreAlike tokens (field_with options contents name table join expand boost)
      (field_with options others name other join expand boost)
  one_field name table other join expand boost none lengths same = record {
    name = refl;
    join = refl;
    expand = refl;
    boost = refl;
    documents = documents;
    lengths = lengths;
    same_postings = λ token word asked stands. same token word asked
        (subst (λ e. CanStandFor (unwrap_or e options.expand) token word) none stands);
  }

  one_more : (name : Bytes) (table other : Table) (fs gs : List Field)
      → ((r : Bytes) → field_length contents r name ≡ field_length others r name)
      → HaveSame options.expand tokens table other → AllZip (AreAlike tokens) fs gs
      → AllZip (AreAlike tokens) (cons_option (field_for options contents name table) fs)
      (cons_option (field_for options others name other) gs)
  one_more name table other fs gs lengths same rest = by (len options.fields == 0) (get options.fields name) (leave name)
    where
      by : (b : Bool) (o : Option SearchOptionsField) → IfSome o (λ own. own.expand ≡ None)
          → AllZip (AreAlike tokens)
          (cons_option (cond b (Some (field_with options contents name table None None None))
          (option_map (λ own. field_with options contents name table own.bool own.expand own.boost) o)) fs)
          (cons_option (cond b (Some (field_with options others name other None None None))
          (option_map (λ own. field_with options others name other own.bool own.expand own.boost) o)) gs)
      by true o none = (one_field name table other None None None refl lengths same, rest)
      by false None none = rest
      by false (Some own) none = (one_field name table other own.bool own.expand own.boost none lengths same, rest)

  -- the fields that the options choose are alike
  pub chosen_alike : (names : List Bytes) (tables more : List Table)
      → ((r name : Bytes) → is_listed name names ≡ true → field_length contents r name ≡ field_length others r name)
      → AllZip (HaveSame options.expand tokens) tables more
      → AllZip (AreAlike tokens) (fields_for options contents (zip names tables))
      (fields_for options others (zip names more))
  chosen_alike [] tables more lengths same = tt
  chosen_alike (name ∷ names) [] [] lengths same = tt
  chosen_alike (name ∷ names) [] (U ∷ us) lengths same = absurd same
  chosen_alike (name ∷ names) (T ∷ ts) [] lengths same = absurd same
  chosen_alike (name ∷ names) (T ∷ ts) (U ∷ us) lengths same =
      one_more name T U (fields_for options contents (zip names ts)) (fields_for options others (zip names us))
      (λ r. lengths r name (itself name names)) same.0
      (chosen_alike names ts us (λ r n h. lengths r n (right_true (bytes_eq n name) _ h)) same.1)

-- tables that agree place by place
pub zipped : (R : Table → Table → Type 0) (ts us : List Table) → length us ≡ length ts
    → ((i : ℕ) (d : Table) → i < length ts → R (get_or ts i d) (get_or us i d)) → AllZip R ts us
zipped R [] [] many each = tt
zipped R [] (u ∷ us) many each = absurd (omega (arith, many))
zipped R (t ∷ ts) [] many each = absurd (omega (arith, many))
zipped R (t ∷ ts) (u ∷ us) many each = (
  each zero t (omega arith),
  zipped R ts us (omega (arith, many)) (λ i d lt. each (suc i) d (omega (arith, lt))),
)

-- a token is that of one of those that are asked for
pub asked_at : (token : Text) (asked : List Bytes) → is_listed token (map chars asked) ≡ true
    → (k : ℕ) × (k < length asked) × (chars (get_or asked k []) ≡ token)
asked_at token [] h = absurd (true≢false (sym h))
asked_at token (a ∷ more) h = elim (either (bytes_eq token (chars a)) _ h) [
  | inl here ↦ (zero, omega arith, sym ((bytes_eq-Decides token (chars a)).0 here))
  | inr later ↦
      let (k, lt, is) = asked_at token more later in (suc k, omega (arith, lt), is)
]
