-- Whether a field is searched, by the map of the options for fields.
use Rattle.std.proofs.Common.{◌≡◌, ◌≢◌, ◌<◌, ◌+◌, ℕ, ◌==◌, Bool, false, cond, Option, Some, None, List, [], ◌∷◌}
use Rattle.std.proofs.Common.{◌++◌, length}
use Rattle.std.proofs.Common.{refl, sym, ap, ◌∙◌, option_map, string_bytes, String, Global, zero}
use Rattle.std.proofs.Common.{suc}
use Rattle.std.proofs.Common.{map, take, get_or, arith}
use Rattle.std.proofs.Math.Dec.{eqb-suc-zero}
use Rattle.std.proofs.lemmas.Cmp.{nat_list_cmp_total}
use Rattle.std.proofs.lemmas.List.{get_or-map, length-map, map-append, take_more}
use Rattle.std.proofs.lemmas.List.Elements.{filter_map-append}
use Rattle.std.proofs.lemmas.Map.Text.{is_eq-slice_cmp}
use Rattle.std.proofs.lemmas.Slice.Eq.{bytes_eq-Decides}
use Rattle.std.proofs.lemmas.Slice.Zip.{get_or-zip, length-zip}
use Rattle.std.specs.BTreeMap.{get_by_text}
use Rattle.std.specs.Borrow.{Bor}
use Rattle.std.specs.FinMap as finite
use Rattle.std.specs.List.{cons_option, filter_map, zip}
use Rattle.std.specs.Option.{option_to_list}
use Rattle.std.specs.Prelude.{unwrap_or}
use Rattle.std.specs.Map.{keys_of}
use Rattle.elasticlunr_error.specs.Text.{Bytes, bytes_of, text_cmp}
use Rattle.elasticlunr_trie.specs.Table.{Table}
use Rattle.elasticlunr_store.specs.Contents.{Contents}
use Rattle.elasticlunr_store.specs.Options.{Options, options_of}
use Rattle.elasticlunr_store.specs.declared.config.SearchBool.{SearchBool}
use Rattle.elasticlunr_store.specs.declared.config.SearchOptions.{SearchOptions}
use Rattle.elasticlunr_store.specs.declared.config.SearchOptionsField.{SearchOptionsField}
use Rattle.elasticlunr_json.specs.Maps.{seen}
use Rattle.elasticlunr_json.proofs.Seen.{bare_entries, get_seen}
use Rattle.elasticlunr_json.proofs.Sorted.{shown}
use Rattle.elasticlunr_ranking.specs.Choice.{field_for, field_with, fields_for}
use Rattle.elasticlunr_ranking.specs.Fields.{Field}

same_option : (o : Option SearchOptionsField) → option_map (λ own. own) o ≡ o
same_option None = refl
same_option (Some own) = refl

pub not_zero : (n : ℕ) → n ≢ 0 → (n == 0) ≡ false
not_zero zero h = absurd (h refl)
not_zero (suc n) h = eqb-suc-zero n

-- options that are there are counted
there : (es : List (String Global × SearchOptionsField)) → length es ≢ 0
    → finite.len (seen (λ (f : SearchOptionsField). f) es)
    ≢ 0
there [] h none = absurd (h refl)
there (e ∷ es) h none =
    let rest = seen (λ (f : SearchOptionsField). f) es in
    let k = string_bytes e.0 in
    let bare : finite.insert rest k e.1 ≡ finite.empty = finite.empty_of_len (finite.insert rest k e.1) none in
    let has : finite.get (finite.insert rest k e.1) k ≡ Some e.1 =
    finite.get-insert nat_list_cmp_total rest k e.1 k
    ∙ ap (λ b. cond b (Some e.1) (finite.get rest k)) (is_eq-slice_cmp k k ∙ (bytes_eq-Decides k k).1 refl) in
    let hasnt : finite.get (finite.insert rest k e.1) k ≡ None =
    ap (λ m. finite.get m k) bare ∙ finite.get-empty text_cmp k in
    let both : Some e.1 ≡ None = sym has ∙ hasnt in
    cc

module _ (options : SearchOptions) (contents : Contents) (name : Bytes) (table : Table) where
  pub for_all : length options.fields.entries ≡ 0
      → field_for (options_of options) contents name table
      ≡ Some (field_with (options_of options) contents name table None None None)
  for_all many = ap (λ n. cond (n == 0) (Some (field_with (options_of options) contents name table None None None))
      (option_map (λ own. field_with (options_of options) contents name table own.bool own.expand own.boost)
      (finite.get (options_of options).fields name)))
      (ap finite.len (bare_entries (λ (f : SearchOptionsField). f) options.fields.entries many)
      ∙ finite.len-empty text_cmp SearchOptionsField)

  pub for_some : length options.fields.entries ≢ 0 → (o : Option SearchOptionsField)
      → get_by_text options.fields name ≡ o → field_for (options_of options) contents name table
      ≡ option_map (λ own. field_with (options_of options) contents name table own.bool own.expand own.boost) o
  for_some many o found =
      ap (λ b. cond b (Some (field_with (options_of options) contents name table None None None))
      (option_map (λ own. field_with (options_of options) contents name table own.bool own.expand own.boost)
      (finite.get (options_of options).fields name)))
      (not_zero (finite.len (options_of options).fields) (there options.fields.entries many))
      ∙ ap (λ f. option_map (λ own. field_with (options_of options) contents name table own.bool own.expand own.boost)
      f)
      (get_seen (λ (f : SearchOptionsField). f) options.fields name
      ∙ same_option (get_by_text options.fields name) ∙ found)

  pub as_chosen : (join : SearchBool) (expand : Bool) (boost : ℕ) (j : Option SearchBool)
      (e : Option Bool) (b : Option ℕ)
      → join ≡ unwrap_or j options.bool → expand ≡ unwrap_or e options.expand → boost ≡ unwrap_or b 1
      → ◌≡◌ {A = Option Field} (Some (record {
        name = name;
        table = table;
        contents = contents;
        join = join;
        expand = expand;
        boost = boost;
      })) (Some (field_with (options_of options) contents name table j e b))
  as_chosen join expand boost j e b js es bs = λ i. Some (record {
    name = name;
    table = table;
    contents = contents;
    join = js i;
    expand = es i;
    boost = bs i;
  })

listed : {Y : Type 0} (o : Option Y) → cons_option o [] ≡ option_to_list o
listed None = refl
listed (Some y) = refl

one : {X Y : Type 0} (h : X → Option Y) (x : X) → filter_map h (x ∷ []) ≡ option_to_list (h x)
one h x = listed (h x)

pub fields_step : (options : Options) (contents : Contents) (names : List (String Global)) (tries : List Table) (i : ℕ)
    (name : String Global) (trie : Table) → i < length names → length tries ≡ length names
    → name ≡ get_or names i name → trie ≡ get_or tries i trie → (old new : List Field)
    → old ≡ fields_for options contents (take i (zip (bytes_of names) tries))
    → new ≡ old ++ option_to_list (field_for options contents (string_bytes name) trie)
    → new ≡ fields_for options contents (take (i + 1) (zip (bytes_of names) tries))
fields_step options contents names tries i name trie lt many n t old new was adds =
    let h = λ (f : Bytes × Table). field_for options contents f.0 f.1 in
    let z = zip (bytes_of names) tries in
    let d : Bytes × Table = (string_bytes name, trie) in
    let lb : i < length (bytes_of names) = omega (arith, length-map names string_bytes, lt) in
    let lt2 : i < length tries = omega arith in
    let at : get_or z i d ≡ d = get_or-zip (bytes_of names) tries i d lb lt2
    ∙ (λ j. ((get_or-map string_bytes names i name (string_bytes name) lt ∙ ap string_bytes (sym n)) j, sym t j)) in
    let lz : i < length z = omega (arith, length-zip (bytes_of names) tries, lb, lt2) in
    adds ∙ ap (λ l. l ++ option_to_list (h d)) was
    ∙ ap (λ l. fields_for options contents (take i z) ++ l) (sym (one h d))
    ∙ sym (filter_map-append h (take i z) (d ∷ []))
    ∙ ap (λ x. filter_map h (take i z ++ x ∷ [])) (sym at)
    ∙ sym (ap (filter_map h) (take_more z i d lz))

pub keys_shown : (es : List (String Global × SearchOptionsField))
    → map (λ e. e.0) (shown (λ (f : SearchOptionsField). f) es) ≡ map string_bytes (keys_of es)
keys_shown [] = refl
keys_shown (e ∷ es) = ap (λ ks. string_bytes e.0 ∷ ks) (keys_shown es)

pub names_push : (done : List (String Global × SearchOptionsField)) (entry : String Global × SearchOptionsField)
    (names : List (Bor Bytes)) (name : Bor Bytes) → map (λ n. n.now) names ≡ map string_bytes (keys_of done)
    → name.now ≡ string_bytes entry.0
    → map (λ n. n.now) (names ++ name ∷ []) ≡ map string_bytes (keys_of (done ++ entry ∷ []))
names_push done entry names name was is =
    map-append (λ (n : Bor Bytes). n.now) names (name ∷ []) ∙ (λ j. was j ++ is j ∷ [])
    ∙ sym (ap (map string_bytes) (map-append (λ (e : String Global × SearchOptionsField). e.0) done (entry ∷ []))
    ∙ map-append string_bytes (keys_of done) (entry.0 ∷ []))
