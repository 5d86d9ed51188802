-- What an index of one document holds, in whose one field one token is read.
use Rattle.std.proofs.Common.{◌≡◌, ◌≢◌, inl, inr, ℕ, zero, suc, ◌<◌, ◌≤◌, ◌*◌, ◌+◌, List, [], ◌∷◌, ◌++◌, length, arith}
use Rattle.std.proofs.Common.{map, Bool, true, false, cond, Option, None, Some, is_some, IsTrue, IsSome, IfSome}
use Rattle.std.proofs.Common.{option_map, option_and_then, codes, encode_utf8, bytes_eq, true≢false, refl, sym, ap}
use Rattle.std.proofs.Common.{subst, ◌∙◌, append-nil, append_assoc, Less, Equal, Greater}
use Rattle.std.specs.Prelude.{IsSomeAnd, Contains, count_by, slice_index_or}
use Rattle.std.proofs.lemmas.Nat.{mul-le}
use Rattle.std.proofs.lemmas.Bool.{cases_eq, cases_lt}
use Rattle.std.proofs.lemmas.List.{append_cancel_left, length-append}
use Rattle.std.proofs.lemmas.Cmp.{nat_list_cmp_total}
use Rattle.std.proofs.lemmas.Slice.Eq.{bytes_eq-Decides}
use Rattle.std.specs.FinMap as map
use Rattle.std.specs.List.{slice_get, AllZip}
use Rattle.std.specs.Option.{option_map_or}
use Rattle.std.specs.Ordering.{nat_cmp, match_ordering, ordering_reverse, is_eq}
use Rattle.std.specs.Cmp.Lexicographic.{slice_cmp}
use Rattle.serde_json.specs.Data.{Data, number, string, object, unsigned, Members, no_members, member, put}
use Rattle.serde_json.specs.Find.{get_member}
use Rattle.serde_json.proofs.Views.{get_member-put, get_member-put_other}
use Rattle.elasticlunr_text.specs.Text.{Text, Bytes, text_cmp}
use Rattle.elasticlunr_store.specs.Contents.{Contents, TextMap, LengthMap, store_value, store_object}
use Rattle.elasticlunr_json.specs.Maps.{members, keyed, count}
use Rattle.elasticlunr_trie.specs.Table.{Table, knows, postings, posting, IsPrefix}
use Rattle.elasticlunr_trie.specs.Tree.{frequencies, IsTree, AreParts, HasKeysInOrder, IsTrieValue}
use Rattle.elasticlunr_trie.proofs.Finishing.{letters_same, not_letter}
use Rattle.elasticlunr_json.proofs.Texts.{text_tie}
use Rattle.elasticlunr_trie.proofs.Printed.{get_other}
use Rattle.elasticlunr_commands.specs.History.{Given, Document, Command, add, remove, compact, Commands, none, ◌▸◌}
use Rattle.elasticlunr.specs.Calls.{adding, followed_by, IsCommandOf}
use Rattle.elasticlunr.specs.Current.{IsPrintedAfter}
use Rattle.elasticlunr.specs.Documents.{IsGiven, IsDocument}
use Rattle.elasticlunr_print.specs.Printed.{IsValue, AreTrieValues, trie, index_object}
use Rattle.elasticlunr_commands.specs.Root.{IsRoot}
use Rattle.elasticlunr_commands.specs.Standing.{Plan, tokens_at, Begins, IsPosting, IsTableOf, stored, length_in}
use Rattle.elasticlunr_commands.specs.Standing.{IsContentsOf}
use Rattle.elasticlunr.specs.Word.{word_tree, word_trie, word_store}
use Rattle.elasticlunr_commands.proofs.Adding.{same, apart, either}
use Rattle.elasticlunr_commands.proofs.Same.{same_contents}
use Rattle.elasticlunr_state.proofs.Storing.{found_after_insert}
use Rattle.elasticlunr_print.proofs.Unique.{HasOneValue}

-- ---- maps of one entry

no_entries : {X : Type 0} (es : List X) → length es ≡ 0 → es ≡ []
no_entries [] is = refl
no_entries (e ∷ es) is = absurd (omega arith)

module _ {X : Type 0} where
  pub entries_of_none : map.entries (map.empty {X = X} {R = text_cmp}) ≡ []
  entries_of_none = no_entries _ (sym (map.len-entries (map.empty {X = X} {R = text_cmp})) ∙ map.len-empty text_cmp X)

  pub entries_of_one : (key : Bytes) (x : X) → map.entries (map.insert (map.empty {X = X} {R = text_cmp}) key x)
      ≡ (key, x) ∷ []
  entries_of_one key x = map.entries-insert nat_list_cmp_total map.empty key x
      ∙ ap (map.put text_cmp key x) entries_of_none

  same_by_get : (m n : map.FinMap text_cmp X) → ((q : Bytes) → map.get m q ≡ map.get n q) → m ≡ n
  same_by_get m n is = map.same_map nat_list_cmp_total (map.slice_cmp-IsAntisymmetric map.nat_cmp-IsAntisymmetric) m n
      is

  get_one : (key : Bytes) (x : X) (q : Bytes) → map.get (map.insert (map.empty {X = X} {R = text_cmp}) key x) q
      ≡ cond (bytes_eq q key) (Some x) None
  get_one key x q = found_after_insert map.empty key x q
      ∙ ap (cond (bytes_eq q key) (Some x)) (map.get-empty text_cmp q)

itself : (x : Bytes) → bytes_eq x x ≡ true
itself x = (bytes_eq-Decides x x).1 refl

-- ---- the root of 1

root_of_one : (r : ℕ) → IsRoot 1 r → r ≡ 1000000
root_of_one r is =
    let above : 1000000 ≤ r = is.greatest 1000000 (omega arith) in
    let below : r * r ≤ 1000000000000 = is.fits in
    let small : ¬ (1000001 ≤ r) = λ more. (let much : 1000001 * 1000001 ≤ r * r = mul-le 1000001 1000001 r r more more
    in omega (arith, much, below)) in
    elim (cases_lt 1000000 r) [
      | inl more ↦ absurd (small (omega (arith, more)))
      | inr less ↦ omega (arith, less, above)
    ]

apart_df : (c : ℕ) → encode_utf8 c ≢ codes "df"
apart_df c e = not_letter c 100 102 [] (omega arith) (sym e)

apart_docs : (c : ℕ) → encode_utf8 c ≢ codes "docs"
apart_docs c e = not_letter c 100 111 (99 ∷ 115 ∷ []) (omega arith) (sym e)

-- ---- members with a child beside `df` and `docs`

abbrev bare : Members
bare = member (codes "df") (number (unsigned 0)) (member (codes "docs") (object no_members) no_members)

module _ (key : List ℕ) (d : Data) (no_df : key ≢ codes "df") (no_docs : key ≢ codes "docs") where
  untied : (k : List ℕ) → key ≢ k → slice_cmp nat_cmp key k ≡ Equal → ⊥
  untied k apart is = apart (text_tie key k (ap is_eq is))

  turned : (k : List ℕ) → slice_cmp nat_cmp key k ≡ Greater → slice_cmp nat_cmp k key ≡ Less
  turned k is = nat_list_cmp_total.antisymm k key ∙ ap ordering_reverse is

  pub child_in_order : HasKeysInOrder (put key d bare)
  child_in_order = by_tests (slice_cmp nat_cmp key (codes "df")) (slice_cmp nat_cmp key (codes "docs")) refl refl where
    by_tests : (o p : _) → slice_cmp nat_cmp key (codes "df") ≡ o → slice_cmp nat_cmp key (codes "docs") ≡ p
        → HasKeysInOrder (match_ordering o (member key d bare)
        (member (codes "df") d (member (codes "docs") (object no_members) no_members))
        (member (codes "df") (number (unsigned 0))
        (match_ordering p (member key d (member (codes "docs") (object no_members) no_members))
        (member (codes "docs") d no_members)
        (member (codes "docs") (object no_members) (member key d no_members)))))
    by_tests Less p eo ep = (
      (eo, (nat_list_cmp_total.trans key (codes "df") (codes "docs") eo refl, tt)),
      ((refl, tt), (tt, tt)),
    )
    by_tests Equal p eo ep = absurd (untied (codes "df") no_df eo)
    by_tests Greater Less eo ep = ((turned (codes "df") eo, (refl, tt)), ((ep, tt), (tt, tt)))
    by_tests Greater Equal eo ep = absurd (untied (codes "docs") no_docs ep)
    by_tests Greater Greater eo ep = ((refl, (turned (codes "df") eo, tt)), ((turned (codes "docs") ep, tt), (tt, tt)))

  pub child_is_part : (T : Table) (p : Text) → ((c : ℕ) × (key ≡ encode_utf8 c) × IsTree T (p ++ c ∷ []) d)
      → AreParts T p (put key d bare)
  child_is_part T p child = by_tests (slice_cmp nat_cmp key (codes "df")) (slice_cmp nat_cmp key (codes "docs")) refl
      refl where
        by_tests : (o q : _) → slice_cmp nat_cmp key (codes "df") ≡ o → slice_cmp nat_cmp key (codes "docs") ≡ q
            → AreParts T p (match_ordering o (member key d bare)
            (member (codes "df") d (member (codes "docs") (object no_members) no_members))
            (member (codes "df") (number (unsigned 0))
            (match_ordering q (member key d (member (codes "docs") (object no_members) no_members))
            (member (codes "docs") d no_members)
            (member (codes "docs") (object no_members) (member key d no_members)))))
        by_tests Less q eo eq = (inr (inr child), (inr (inl refl), (inl refl, tt)))
        by_tests Equal q eo eq = absurd (untied (codes "df") no_df eo)
        by_tests Greater Less eo eq = (inr (inl refl), (inr (inr child), (inl refl, tt)))
        by_tests Greater Equal eo eq = absurd (untied (codes "docs") no_docs eq)
        by_tests Greater Greater eo eq = (inr (inl refl), (inl refl, (inr (inr child), tt)))

-- ---- the one document

-- its document
abbrev word_document : (reference value : Bytes) → Text → Document
word_document reference value token = record
    { reference = reference; given = record { value = value; tokens = Some (token ∷ []) } ∷ [] }

module _ (reference value : Bytes) (token : Text) (there : token ≢ []) where
  abbrev held : Commands
  held = none ▸ add (word_document reference value token)

  only_token : (t : Text) (k : ℕ) → k < 1 → slice_index_or (token ∷ []) k t ≡ t → t ≡ token
  only_token t zero low is = sym is
  only_token t (suc k) low is = absurd (omega arith)

  module _ (table : Table) (is : IsTableOf held 0 table) where
    known_begins : (text : Text) → IsTrue (knows table text) → IsPrefix text token
    known_begins text known = either (λ e. (token, ap (λ t. t ++ token) e)) (λ b. begins b) ((is.known text).0 known)
      where
        in_document : (d : Document) → (word_document reference value token) ≡ d → (t : Text)
            → IsSomeAnd (tokens_at 0 d) (λ tokens. Contains tokens t) → t ≡ token
        in_document d e t has = (let own : Contains (token ∷ []) t =
            subst (λ x. IsSomeAnd (tokens_at 0 x) (λ tokens. Contains tokens t)) (sym e) has in only_token t own.0 own.1
            own.2)

        begins : Begins held 0 text → IsPrefix text token
        begins b = either (λ e. subst (IsPrefix text) (in_document b.document e b.token b.has) b.begins)
            (λ bad. absurd bad) b.counts

    begins_known : (text : Text) → IsPrefix text token → IsTrue (knows table text)
    begins_known text begins = (is.known text).1
        (inr (record {
          document = _;
          token = token;
          counts = inl refl;
          has = (0, omega arith, refl);
          begins =
              begins;
        }))

    posted : (o : Option ℕ) → IsSomeAnd o (IsRoot 1) → o ≡ Some 1000000
    posted None h = absurd h
    posted (Some r) h = ap Some (root_of_one r h)

    posting_is : (p : Text) (q : Bytes) → p ≢ [] → posting table p q
        ≡ cond (bytes_eq q reference) (cond (bytes_eq p token) (Some 1000000) None) None
    posting_is p q some = by_tests (posting table p q) (bytes_eq q reference) (bytes_eq p token) refl
        (is.postings p q some) where
          by_tests : (o : Option ℕ) (a b : Bool) → bytes_eq p token ≡ b
              → IsPosting (option_map_or (count_by (bytes_eq p))
              (option_and_then (tokens_at 0) (cond a (Some (word_document reference value token)) None)) 0) o
              → o ≡ cond a (cond b (Some 1000000) None) None
          by_tests o false b e h = h
          by_tests o true true e h = posted o (subst (λ x. IsPosting (0 + cond x 1 0) o) e h)
          by_tests o true false e h = subst (λ x. IsPosting (0 + cond x 1 0) o) e h

    no_posting : (p : Text) → p ≢ token → (q : Bytes) → posting table p q ≡ None
    no_posting p away q = by_test (bytes_eq p []) refl where
      neither : (a : Bool) (o : Option ℕ) → o ≡ None → cond a o None ≡ None
      neither true o e = e
      neither false o e = refl

      by_token : (b : Bool) → bytes_eq p token ≡ b
          → cond {A = Option ℕ} (bytes_eq q reference) (cond (bytes_eq p token) (Some 1000000) None) None ≡ None
      by_token true e = absurd (away (same p token e))
      by_token false e = ap (λ b. cond {A = Option ℕ} (bytes_eq q reference) (cond b (Some 1000000) None) None) e
          ∙ neither (bytes_eq q reference) None refl

      by_test : (b : Bool) → bytes_eq p [] ≡ b → posting table p q ≡ None
      by_test true e = ap (λ t. posting table t q) (same p [] e) ∙ is.no_empty q
      by_test false e = posting_is p q (apart p [] e) ∙ by_token (bytes_eq p token) refl

    none_posted : (p : Text) → p ≢ token → postings table p ≡ map.empty
    none_posted p away = same_by_get _ _ (λ q. no_posting p away q ∙ sym (map.get-empty text_cmp q))

    one_posted : postings table token ≡ map.insert map.empty reference 1000000
    one_posted = same_by_get _ _ (λ q. posting_is token q there
        ∙ ap (λ b. cond (bytes_eq q reference) (cond b (Some 1000000) None) None) (itself token)
        ∙ sym (get_one reference 1000000 q))

    -- ---- its tree

    leaf_none : (c : ℕ) → get_member (encode_utf8 c)
        (member (codes "df") (number (unsigned 1))
        (member (codes "docs") (object (frequencies ((reference, 1000000) ∷ []))) no_members)) ≡ None
    leaf_none c = get_other (encode_utf8 c) (codes "df") (number (unsigned 1))
        (member (codes "docs") (object (frequencies ((reference, 1000000) ∷ []))) no_members) (apart_df c)
        ∙ get_other (encode_utf8 c) (codes "docs") (object (frequencies ((reference, 1000000) ∷ []))) no_members
        (apart_docs c)

    bare_none : (c : ℕ) → get_member (encode_utf8 c) bare ≡ None
    bare_none c = get_other (encode_utf8 c) (codes "df") (number (unsigned 0))
        (member (codes "docs") (object no_members) no_members) (apart_df c)
        ∙ get_other (encode_utf8 c) (codes "docs") (object no_members) no_members (apart_docs c)

    not_some : {X : Type 0} (o : Option X) → o ≡ None → ¬ IsSome o
    not_some o e some = true≢false (sym some ∙ ap is_some e)

    too_long : (p : Text) (c : ℕ) (rest : Text) → p ≡ token → (p ++ c ∷ []) ++ rest ≡ token → ⊥
    too_long p c rest e longer =
        let lengths : length ((p ++ c ∷ []) ++ rest) ≡ length p = ap length (longer ∙ sym e) in
        let whole : length ((p ++ c ∷ []) ++ rest) ≡ length (p ++ c ∷ []) + length rest = length-append (p ++ c ∷ [])
        rest in
        let front : length (p ++ c ∷ []) ≡ length p + length (c ∷ []) = length-append p (c ∷ []) in
        let one : length (c ∷ []) ≡ 1 = refl in
        omega (arith, lengths, whole, front, one)

    shorter : (p : Text) (c : ℕ) (left : Text) → p ++ c ∷ left ≡ token → p ≢ token
    shorter p c left e is = too_long p c left is (append_assoc p (c ∷ []) left ∙ e)

    tree : (left p : Text) → p ++ left ≡ token → IsTree table p (word_tree left reference)
    tree [] p e =
        let here : p ≡ token = sym (append-nil p) ∙ e in
        let posts : postings table p ≡ map.insert map.empty reference 1000000 = ap (postings table) here
        ∙ one_posted in (
          ((refl, tt), (tt, tt)),
          ap (λ es. Some (object (frequencies es))) (sym (ap map.entries posts ∙ entries_of_one reference 1000000)),
          ap (λ n. Some (number (unsigned n))) (sym (ap map.len posts ∙ map.len-entries _
              ∙ ap length (entries_of_one reference 1000000))),
          λ c. (
            λ known. (let begins = known_begins (p ++ c ∷ []) known in absurd
                (too_long p c begins.0 here begins.1)),
            λ found. absurd (not_some _ (leaf_none c) found),
          ),
          (inr (inl refl), (inl refl, tt)),
        )
    tree (c ∷ left) p e =
        let posts : postings table p ≡ map.empty = none_posted p (shorter p c left e) in
        let key = encode_utf8 c in
        let next : (p ++ c ∷ []) ++ left ≡ token = append_assoc p (c ∷ []) left ∙ e in (
          child_in_order key (word_tree left reference) (apart_df c) (apart_docs c),
          get_member-put_other (codes "docs") key (word_tree left reference) bare (λ h. apart_docs c (sym h))
              ∙ ap (λ es. Some (object (frequencies es))) (sym (ap map.entries posts ∙ entries_of_none)),
          get_member-put_other (codes "df") key (word_tree left reference) bare (λ h. apart_df c (sym h))
              ∙ ap (λ n. Some (number (unsigned n))) (sym (ap map.len posts ∙ map.len-empty text_cmp ℕ)),
          λ b. (
            λ known. found b (known_begins (p ++ b ∷ []) known),
            λ some. begins_known (p ++ b ∷ [])
                (follows b some),
          ),
          child_is_part key (word_tree left reference) (apart_df c) (apart_docs c) table p
              (c, refl, tree left (p ++ c ∷ []) next),
        ) where
          found : (b : ℕ) → IsPrefix (p ++ b ∷ []) token
              → IsSome (get_member (encode_utf8 b) (put (encode_utf8 c) (word_tree left reference) bare))
          found b begins =
              let both : b ∷ begins.0 ≡ c ∷ left = append_cancel_left p (b ∷ begins.0) (c ∷ left)
              (sym (append_assoc p (b ∷ []) begins.0) ∙ begins.1 ∙ sym e) in
              let is : b ≡ c = cc (both) in
              ap is_some (ap (λ x. get_member (encode_utf8 x) (put (encode_utf8 c) (word_tree left reference) bare)) is
              ∙ get_member-put (encode_utf8 c) (word_tree left reference) bare)

          follows : (b : ℕ) → IsSome (get_member (encode_utf8 b) (put (encode_utf8 c) (word_tree left reference) bare))
              → IsPrefix (p ++ b ∷ []) token
          follows b some = elim (cases_eq b c) [
            | inl is ↦ (left, ap (λ x. (p ++ x ∷ []) ++ left) is ∙ append_assoc p (c ∷ []) left ∙ e)
            | inr other ↦ absurd (not_some _ (get_member-put_other (encode_utf8 b) (encode_utf8 c)
                (word_tree left reference) bare (λ h. other (letters_same b c h)) ∙ bare_none b) some)
          ]

    pub word_tree_is : IsTrieValue table (word_trie token reference)
    word_tree_is = (word_tree token reference, refl, tree token [] refl)

  -- ---- its store

  module _ (reference_field field language : Bytes) (stages : List Bytes) where
    abbrev plan : Plan
    plan = record {
      fields = field ∷ [];
      reference_field = reference_field;
      save = true;
      language = language;
      stages =
          stages;
    }

    abbrev texts : TextMap
    texts = map.insert (map.insert map.empty reference_field reference) field value

    abbrev lengths : LengthMap
    lengths = map.insert map.empty field 1

    abbrev contents : Contents
    contents = record {
      save = true;
      texts = map.insert map.empty reference
          (map.insert (map.insert map.empty reference_field reference) field value);
      lengths = map.insert map.empty
          reference (map.insert map.empty field 1);
    }

    not_empty : map.insert (map.empty {X = ℕ} {R = text_cmp}) field 1 ≢ map.empty
    not_empty is = let bad : Some 1 ≡ None = sym (get_one field 1 field ∙ ap (λ b. cond b (Some 1) None) (itself field))
        ∙ ap (λ m. map.get m field) is ∙ map.get-empty text_cmp field in cc (bad)

    is_contents : IsContentsOf plan held contents
    is_contents = record {
      are_contents = record {
        has_lengths = λ r is. full (bytes_eq r reference) (sym (get_one reference _ r) ∙ is);
        unsaved = λ bad. absurd (true≢false bad);
      };
      save = refl;
      texts = λ r. get_one reference _ r ∙ stored_at (bytes_eq r reference);
      lengths = λ r f. ap (option_and_then (λ m. map.get m f)) (get_one reference _ r)
          ∙ length_there f (bytes_eq r reference);
    } where
      full : (b : Bool) → cond b (Some (map.insert (map.empty {X = ℕ} {R = text_cmp}) field 1)) None ≡ Some map.empty
          → ⊥
      full true e = not_empty (cc (e))
      full false e = cc (e)

      stored_at : (b : Bool) → cond b (Some (map.insert (map.insert map.empty reference_field reference) field value))
          None ≡ option_map (stored plan) (cond b (Some (word_document reference value token)) None)
      stored_at true = refl
      stored_at false = refl

      length_there : (f : Bytes) (b : Bool) → option_and_then (λ m. map.get m f)
          (cond b (Some (map.insert (map.empty {X = ℕ} {R = text_cmp}) field 1)) None)
          ≡ option_and_then (λ (d : Document). length_in (field ∷ []) d.given f)
          (cond b (Some (word_document reference value token)) None)
      length_there f true = get_one field 1 f
      length_there f false = refl

    contents_value : store_value contents ≡ word_store reference_field field reference value
    contents_value =
        let inner : map.entries (map.insert (map.insert (map.empty {X = Bytes} {R = text_cmp}) reference_field
        reference) field value) ≡ map.put text_cmp field value ((reference_field, reference) ∷ []) =
        map.entries-insert nat_list_cmp_total _ field value
        ∙ ap (map.put text_cmp field value) (entries_of_one reference_field reference) in
        let docs : keyed (keyed string) contents.texts
        ≡ object (member reference (object (members string
        (map.put text_cmp field value ((reference_field, reference) ∷ [])))) no_members) =
        ap (λ es. object (members (keyed string) es)) (entries_of_one reference _)
        ∙ ap (λ es. object (member reference (object (members string es)) no_members)) inner in
        let info : keyed (keyed count) contents.lengths
        ≡ object (member reference (object (members count ((field, 1) ∷ []))) no_members) =
        ap (λ es. object (members (keyed count) es)) (entries_of_one reference _)
        ∙ ap (λ es. object (member reference (object (members count es)) no_members)) (entries_of_one field 1) in
        let many : map.len contents.texts ≡ 1 = map.len-entries _ ∙ ap length (entries_of_one reference _) in
        λ i. store_object true (docs i) (info i) (many i)

    tries_are : HasOneValue → (tables : List Table) (tries : List Data) → length tables ≡ 1
        → ((i : ℕ) → IfSome (slice_get tables i) (IsTableOf held i)) → AreTrieValues tables tries → tries
        ≡ word_trie token reference ∷ []
    tries_are one [] tries many each are = absurd (omega (arith, many))
    tries_are one (table ∷ next ∷ tables) tries many each are = absurd (omega (arith, many))
    tries_are one (table ∷ []) [] many each are = elim are [ ]
    tries_are one (table ∷ []) (v ∷ w ∷ tries) many each (trie is more) = elim more [ ]
    tries_are one (table ∷ []) (v ∷ []) many each (trie is more) = ap (λ d. d ∷ [])
        (one table v (word_trie token reference) is (word_tree_is table (each 0)))

    -- the value after one document of one token
    value_is : HasOneValue → (v : Data) → IsValue plan held v → v ≡ index_object plan (word_trie token reference ∷ [])
        (word_store reference_field field reference value)
    value_is one v is =
        let tries = tries_are one is.tables is.printed.tries is.holds.one_each is.holds.each is.printed.each_trie in
        let same_store : is.contents ≡ contents = same_contents held held (λ r. refl) plan is.contents contents
        is.holds.store is_contents in
        let documents : is.printed.documents ≡ word_store reference_field field reference value = is.printed.store
        ∙ ap store_value same_store ∙ contents_value in
        is.printed.whole ∙ λ i. index_object plan (tries i) (documents i)

    -- ---- that the calls were this document

    module _ (reads : ℕ → Bytes → List Text → Type 0) (apart_fields : field ≢ reference_field)
        (only : (tokens : List Text) → reads 0 value tokens → tokens ≡ token ∷ []) where
      some_tokens : (tokens : Option (List Text)) → IsSomeAnd tokens (reads 0 value) → tokens ≡ Some (token ∷ [])
      some_tokens None is = absurd is
      some_tokens (Some tokens) is = ap Some (only tokens is)

      given_is : (given : List Given) → map (λ g. g.value) given ≡ value ∷ []
          → ((i : ℕ) → IfSome (slice_get given i) (IsGiven (field ∷ []) reference_field reads i)) → given
          ≡ record { value = value; tokens = Some (token ∷ []) } ∷ []
      given_is [] values each = cc (values)
      given_is (g ∷ h ∷ given) values each = cc (values)
      given_is (g ∷ []) values each =
          let its : g.value ≡ value = cc (values) in
          let tokens : g.tokens ≡ Some (token ∷ []) = some_tokens g.tokens
          (subst (λ v. IsSomeAnd g.tokens (reads 0 v)) its ((each 0).of_value (λ e. apart_fields (cc (e))))) in
          λ i. record { value = its i; tokens = tokens i } ∷ []

      document_is : (d : Document) → IsDocument (field ∷ []) reference_field reads reference (value ∷ []) d → d
          ≡ word_document reference value token
      document_is d is =
          let given = given_is d.given is.its_values is.each in
          λ i. record { reference = is.its_reference i; given = given i }

      list_is : (list : List Command) → AllZip (IsCommandOf (IsDocument (field ∷ []) reference_field reads))
          (adding reference (value ∷ []) ∷ []) list
          → list ≡ add (word_document reference value token) ∷ []
      list_is [] all = absurd all
      list_is (add d ∷ []) all = ap (λ x. add x ∷ []) (document_is d all.0)
      list_is (add d ∷ next ∷ list) all = absurd all.1
      list_is (remove r ∷ list) all = absurd all.0
      list_is (compact ∷ list) all = absurd all.0

      -- so the text is that of its value
      pub text_is : HasOneValue → (text_of : Data → List ℕ) (text : List ℕ)
          → IsPrintedAfter reads text_of plan (adding reference (value ∷ []) ∷ []) text
          → text ≡ text_of (index_object plan (word_trie token reference ∷ [])
          (word_store reference_field field reference value))
      text_is one text_of text printed =
          let commands : printed.commands ≡ held = printed.were.whole
          ∙ ap (followed_by none) (list_is printed.were.list printed.were.each) in
          printed.printed.2 ∙ ap text_of (value_is one printed.printed.0
          (subst (λ c. IsValue plan c printed.printed.0) commands printed.printed.1))
