-- What a trie has after the entries of a piece were added.
use Rattle.std.proofs.Common.{◌≡◌, ◌≢◌, ◌<◌, ◌≤◌, ◌-◌, ℕ, zero, suc, Bool, true, false, true≢false, ◌||◌}
use Rattle.std.proofs.Common.{cond, List, [], ◌∷◌, length, map, get_or, Option, Some, None, refl, sym, ap, subst, ◌∙◌}
use Rattle.std.proofs.Common.{arith, bytes_eq, if◌then◌else◌, Less, Equal, Greater}
use Rattle.std.proofs.lemmas.Slice.Eq.{bytes_eq-Decides}
use Rattle.std.proofs.lemmas.Cmp.{nat_list_cmp_total}
use Rattle.std.specs.Prelude.{◌&&◌, IsSome, T, unwrap_or, replicate}
use Rattle.std.specs.FinMap.{empty, entries, entries_sorted, get, get-empty, get-entries, get-insert}
use Rattle.std.specs.FinMap.{nat_cmp-IsAntisymmetric, slice_cmp-IsAntisymmetric}
use Rattle.std.specs.FinMap.Entries.{below_all, find, is_sorted}
use Rattle.std.specs.Ordering.{is_eq, is_lt, ordering_reverse}
use Rattle.std.specs.Str.{chars}
use Rattle.std.specs.declared.cmp.Ordering.{Ordering}
use Rattle.serde_json.specs.Data.{array, Items, no_items, item}
use Rattle.elasticlunr_error.specs.Text.{Text, Bytes, is_listed, text_cmp}
use Rattle.elasticlunr_json.specs.Maps.{count, members}
use Rattle.elasticlunr_trie.specs.Table.{Table, AreChanged, add, new_table, posting, postings, Postings}
use Rattle.elasticlunr_pieces.specs.Entries.{field_values, number_from, number_of, numbered, token_members, with_number}
use Rattle.elasticlunr_piece_laws.specs.Held.{HavePostingsOf, is_one_of, stands_in_one}
use Rattle.elasticlunr_piece_search.specs.Entries.{AreEntriesAdded, Entry, IsEntryAdded, Numbered, settings, turns}
use Rattle.elasticlunr_pieces.specs.Telling.{HasNumbers}
use Rattle.elasticlunr_piece_head.specs.Values.{array_of}

-- ---- the list of a token

-- the reference that a number names
numbered_name : (names : List Bytes) (r : Bytes) (k n : ℕ) → number_from k names r ≡ Some n
    → (k ≤ n) × (get_or names (n - k) [] ≡ r)
numbered_name [] r k n e = absurd (cc)
numbered_name (q ∷ qs) r k n e = by (bytes_eq q r) refl (numbered_name qs r (suc k) n) e
  where
    by : (b : Bool) → bytes_eq q r ≡ b
        → (number_from (suc k) qs r ≡ Some n → (suc k ≤ n) × (get_or qs (n - suc k) [] ≡ r))
        → (if b then Some k else number_from (suc k) qs r) ≡ Some n
        → (k ≤ n) × (get_or (q ∷ qs) (n - k) [] ≡ r)
    by true same later is =
        let here : k ≡ n = cc in
        let none : n - k ≡ 0 = omega (arith, here) in
        (omega (arith, here), ap (λ m. get_or (q ∷ qs) m []) none ∙ (bytes_eq-Decides q r).0 same)
    by false same later is =
        let more = later is in
        let low = more.0 in
        let next : n - k ≡ suc (n - suc k) = omega (arith, low) in
        (omega (arith, low), ap (λ m. get_or (q ∷ qs) m []) next ∙ more.1)

name_of : (names : List Bytes) (r : Bytes) (n : ℕ) → number_of names r ≡ Some n → get_or names n [] ≡ r
name_of names r n e = let same : n ≡ n - 0 = omega arith in
    ap (λ m. get_or names m []) same ∙ (numbered_name names r 0 n e).1

some_of : (o : Option ℕ) → IsSome o → (n : ℕ) × (o ≡ Some n)
some_of None is = absurd (true≢false (sym is))
some_of (Some n) is = (n, refl)

none_listed : (o : Option ℕ) (f : ℕ) (more : Items) → IsSome o → with_number o f more ≡ no_items → ⊥
none_listed None f more is e = true≢false (sym is)
none_listed (Some n) f more is e = cc

count_told : (m n : ℕ) → count m ≡ count n → m ≡ n
count_told m n e = cc

pub array_told : (items more : Items) → array items ≡ array more → items ≡ more
array_told items more e = cc

both_listed : (m n f g : ℕ) (more rest : Items)
    → item (count m) (item (count f) more) ≡ item (count n) (item (count g) rest)
    → (m ≡ n) × (f ≡ g) × (more ≡ rest)
both_listed m n f g more rest e =
    let first : count m ≡ count n = cc in
    let second : count f ≡ count g = cc in
    (count_told m n first, count_told f g second, cc)

-- the list of postings sets them
settings_told : (names : List Bytes) (token : Bytes) (ps : Numbered) (qs : List (Bytes × ℕ)) → HasNumbers names qs
    → turns ps ≡ numbered names qs → settings names token ps ≡ map (λ q. add (chars token) q.0 q.1) qs
settings_told names token [] [] has e = refl
settings_told names token [] (q ∷ qs) has e =
    absurd (none_listed (number_of names q.0) q.1 (numbered names qs) has.0 (sym e))
settings_told names token (p ∷ ps) [] has e = absurd (cc)
settings_told names token (p ∷ ps) (q ∷ qs) has e =
    let n = some_of (number_of names q.0) has.0 in
    let told = both_listed p.0 n.0 p.1 q.1 (turns ps) (numbered names qs)
    (e ∙ ap (λ o. with_number o q.1 (numbered names qs)) n.1) in
    let name : get_or names p.0 [] ≡ q.0 = ap (λ m. get_or names m []) told.0 ∙ name_of names q.0 n.0 n.1 in
    λ i. add (chars token) (name i) (told.1 i) ∷ settings_told names token ps qs has.1 told.2 i

-- ---- postings that are set

first : (a b : Bool) → T (a && b) → T a
first true b p = tt
first false b p = p

second : (a b : Bool) → T (a && b) → T b
second true b p = p
second false b p = absurd p

less : (o : Ordering) → T (is_lt o) → o ≡ Less
less Less p = refl
less Equal p = absurd p
less Greater p = absurd p

find_below : {X : Type 0} (q : Bytes) (es : List (Bytes × X)) → T (below_all text_cmp q es) → find text_cmp q es ≡ None
find_below q [] h = refl
find_below q (e ∷ es) h = ap (λ r. cond (is_eq r) (Some e.1) (find text_cmp q es)) (less _ (first _ _ h))
    ∙ find_below q es (second _ _ h)

itself_equal : (o : Ordering) → o ≡ ordering_reverse o → o ≡ Equal
itself_equal Less e = cc
itself_equal Equal e = refl
itself_equal Greater e = cc

text_itself : (x : Bytes) → text_cmp x x ≡ Equal
text_itself x = itself_equal (text_cmp x x) (nat_list_cmp_total.antisymm x x)

exact : (x y : Bytes) → text_cmp x y ≡ Equal → x ≡ y
exact = slice_cmp-IsAntisymmetric nat_cmp-IsAntisymmetric

-- the first one, or else the second
abbrev pub or_else : Option ℕ → Option ℕ → Option ℕ
or_else None y = y
or_else (Some x) y = Some x

-- a table has these postings of a text besides what another one has, and all others from there
pub record HasBesides (t : Text) (has : Bytes → Option ℕ) (old new : Table) : Type 0 where
  pub own : (q : Bytes) → posting new t q ≡ or_else (has q) (posting old t q)
  pub others : (s : Text) (q : Bytes) → s ≢ t → posting new s q ≡ posting old s q

all_set : (t : Text) → t ≢ [] → (qs : List (Bytes × ℕ)) → T (is_sorted text_cmp qs) → (old new : Table)
    → AreChanged (map (λ q. add t q.0 q.1) qs) old new → HasBesides t (λ q. find text_cmp q qs) old new
all_set t some [] sorted old new e = record {
  own = λ q. ap (λ T. posting T t q) e;
  others = λ s q other. ap (λ T. posting T s q) e;
}
all_set t some (p ∷ qs) sorted old new (mid, changed, rest) =
    let adds = changed.0 some in
    let more = all_set t some qs (second _ _ sorted) mid new rest in
    record {
      own = λ q. by q (text_cmp q p.0) refl (more.own q);
      others = λ s q other. more.others s q other ∙ adds.others s q (λ both. other both.0);
    }
  where
    by : (q : Bytes) (o : Ordering) → text_cmp q p.0 ≡ o
        → posting new t q ≡ or_else (find text_cmp q qs) (posting mid t q)
        → posting new t q ≡ or_else (cond (is_eq o) (Some p.1) (find text_cmp q qs)) (posting old t q)
    by q Equal is e =
        let same : q ≡ p.0 = exact q p.0 is in
        let none : find text_cmp q qs ≡ None = ap (λ x. find text_cmp x qs) same
        ∙ find_below p.0 qs (first _ _ sorted) in
        e ∙ ap (λ o. or_else o (posting mid t q)) none ∙ ap (posting mid t) same ∙ (changed.0 some).set
    by q Less is e = e ∙ ap (or_else (find text_cmp q qs)) ((changed.0 some).others t q (λ both.
        let other : text_cmp q p.0 ≡ Equal = ap (text_cmp q) (sym both.1) ∙ text_itself q in cc))
    by q Greater is e = e ∙ ap (or_else (find text_cmp q qs)) ((changed.0 some).others t q (λ both.
        let other : text_cmp q p.0 ≡ Equal = ap (text_cmp q) (sym both.1) ∙ text_itself q in cc))

-- ---- entries

-- the list of one field
field_told : (names : List Bytes) (token : Bytes) (lists : List Numbered) (tables : List Table) (i : ℕ) (d : Table)
    → array_of (λ ps. array (turns ps)) lists ≡ array (field_values names tables token) → i < length tables
    → turns (get_or lists i []) ≡ numbered names (entries (postings (get_or tables i d) (chars token)))
field_told names token lists [] i d e lt = absurd (omega (arith, lt))
field_told names token [] (table ∷ tables) i d e lt = absurd (cc)
field_told names token (ps ∷ lists) (table ∷ tables) zero d e lt =
    let here : array (turns ps) ≡ array (numbered names (entries (postings table (chars token)))) = cc in
    array_told _ _ here
field_told names token (ps ∷ lists) (table ∷ tables) (suc i) d e lt =
    let later : array_of (λ ps. array (turns ps)) lists ≡ array (field_values names tables token) = cc in
    field_told names token lists tables i d later (omega (arith, lt))

module _ (names : List Bytes) (tables : List Table)
    (numbers : (i : ℕ) (d : Table) (token : Bytes) → i < length tables
    → HasNumbers names (entries (postings (get_or tables i d) (chars token)))) where
  entry_added : (entry : Entry) (olds news : List Table) → length olds ≡ length tables → chars entry.0 ≢ []
      → array_of (λ ps. array (turns ps)) entry.1 ≡ array (field_values names tables entry.0)
      → IsEntryAdded names entry olds news → (i : ℕ) (d : Table) → i < length tables
      → HasBesides (chars entry.0) (posting (get_or tables i d) (chars entry.0)) (get_or olds i d) (get_or news i d)
  entry_added entry olds news many some is added i d lt =
      let P = postings (get_or tables i d) (chars entry.0) in
      let its = added.each i d (omega (arith, lt, many)) in
      let set = all_set (chars entry.0) some (entries P) (entries_sorted P) (get_or olds i d) (get_or news i d)
      (subst (λ changes. AreChanged changes (get_or olds i d) (get_or news i d))
      (settings_told names entry.0 (get_or entry.1 i []) (entries P) (numbers i d entry.0 lt)
      (field_told names entry.0 entry.1 tables i d is lt)) its.changes) in
      record {
        own = λ q. set.own q ∙ ap (λ o. or_else o (posting (get_or olds i d) (chars entry.0) q))
            (sym (get-entries P q));
        others = set.others;
      }

  -- the same postings once more
  again : (x y : Option ℕ) → or_else x (or_else x y) ≡ or_else x y
  again None y = refl
  again (Some x) y = refl

  step : (b c : Bool) (x old mid new : Option ℕ) → (b ≡ true → mid ≡ or_else x old) → (b ≡ false → mid ≡ old)
      → new ≡ cond c (or_else x mid) mid → new ≡ cond (b || c) (or_else x old) old
  step true true x old mid new own others e = e ∙ ap (or_else x) (own refl) ∙ again x old
  step true false x old mid new own others e = e ∙ own refl
  step false true x old mid new own others e = e ∙ ap (or_else x) (others refl)
  step false false x old mid new own others e = e ∙ others refl

  own_here : (s t : Text) (has : Text → Bytes → Option ℕ) (old mid : Table) → HasBesides t (has t) old mid → (q : Bytes)
      → bytes_eq s t ≡ true → posting mid s q ≡ or_else (has s q) (posting old s q)
  own_here s t has old mid besides q is =
      let same : t ≡ s = sym ((bytes_eq-Decides s t).0 is) in
      subst (λ x. posting mid x q ≡ or_else (has x q) (posting old x q)) same (besides.own q)

  other_here : (s t : Text) (has : Text → Bytes → Option ℕ) (old mid : Table) → HasBesides t (has t) old mid
      → (q : Bytes) → bytes_eq s t ≡ false → posting mid s q ≡ posting old s q
  other_here s t has old mid besides q is =
      besides.others s q (λ same. true≢false (sym ((bytes_eq-Decides s t).1 same) ∙ is))

  -- the entries of a piece set the postings of its tokens
  pub piece_added : (es : List Entry) (tokens : List Bytes) (olds news : List Table)
      → length olds ≡ length tables
      → members (λ lists. array_of (λ ps. array (turns ps)) lists) es ≡ token_members names tables tokens
      → ((token : Bytes) → is_listed token tokens ≡ true → chars token ≢ [])
      → AreEntriesAdded names es olds news
      → (length news ≡ length tables) × ((i : ℕ) (d : Table) → i < length tables → (s : Text) (q : Bytes)
      → posting (get_or news i d) s q ≡ cond (is_one_of tokens s)
      (or_else (posting (get_or tables i d) s q) (posting (get_or olds i d) s q)) (posting (get_or olds i d) s q))
  piece_added [] [] olds news many e some added =
      (ap length added ∙ many, λ i d lt s q. ap (λ Ts. posting (get_or Ts i d) s q) added)
  piece_added [] (t ∷ ts) olds news many e some added = absurd (cc)
  piece_added (entry ∷ es) [] olds news many e some added = absurd (cc)
  piece_added (entry ∷ es) (t ∷ ts) olds news many e some (mids, first, rest) =
      let name : entry.0 ≡ t = cc in
      let here : array_of (λ ps. array (turns ps)) entry.1 ≡ array (field_values names tables t) = cc in
      let later : members (λ lists. array_of (λ ps. array (turns ps)) lists) es ≡ token_members names tables ts = cc in
      let listed : bytes_eq t t ≡ true = (bytes_eq-Decides t t).1 refl in
      let more = piece_added es ts mids news (first.many ∙ many) later
      (λ token h. some token (right_true (bytes_eq token t) _ h)) rest in (
        more.0,
        λ i d lt s q.
            let besides = entry_added entry olds mids many
            (λ none. some t (left_true _ _ listed) (ap chars (sym name) ∙ none))
            (here ∙ ap (λ x. array (field_values names tables x)) (sym name)) first i d lt in
            let its = subst (λ x. HasBesides (chars x) (posting (get_or tables i d) (chars x)) (get_or olds i d)
            (get_or mids i d)) name besides in
            step (bytes_eq s (chars t)) (is_one_of ts s) (posting (get_or tables i d) s q)
            (posting (get_or olds i d) s q) (posting (get_or mids i d) s q) (posting (get_or news i d) s q)
            (own_here s (chars t) (posting (get_or tables i d)) (get_or olds i d) (get_or mids i d) its q)
            (other_here s (chars t) (posting (get_or tables i d)) (get_or olds i d) (get_or mids i d) its q)
            (more.1 i d lt s q),
      )
    where
      left_true : (a b : Bool) → a ≡ true → (a || b) ≡ true
      left_true true b h = refl
      left_true false b h = absurd (true≢false (sym h))

      right_true : (a b : Bool) → b ≡ true → (a || b) ≡ true
      right_true true b h = refl
      right_true false b h = h

-- ---- pieces

one_piece_more : (a b : Bool) (x old new : Option ℕ) → old ≡ cond b x None → new ≡ cond a (or_else x old) old
    → new ≡ cond (a || b) x None
one_piece_more true b x old new was is = is ∙ ap (or_else x) was ∙ both b x
  where
    both : (b : Bool) (x : Option ℕ) → or_else x (cond b x None) ≡ x
    both true None = refl
    both true (Some n) = refl
    both false None = refl
    both false (Some n) = refl
one_piece_more false b x old new was is = is ∙ was

pub piece_more : (groups : List (List Bytes)) (numbers : List ℕ) (n : ℕ) (tables olds news : List Table)
    → HavePostingsOf groups numbers tables olds → length news ≡ length tables
    → ((i : ℕ) (d : Table) → i < length tables → (s : Text) (q : Bytes)
    → posting (get_or news i d) s q ≡ cond (is_one_of (get_or groups n []) s)
    (or_else (posting (get_or tables i d) s q) (posting (get_or olds i d) s q)) (posting (get_or olds i d) s q))
    → HavePostingsOf groups (n ∷ numbers) tables news
piece_more groups numbers n tables olds news have many set = record {
  many = many;
  each = λ i d lt s q. one_piece_more (is_one_of (get_or groups n []) s) (stands_in_one groups numbers s)
      (posting (get_or tables i d) s q) (posting (get_or olds i d) s q) (posting (get_or news i d) s q)
      (have.each i d lt s q) (set i d lt s q);
}

-- a new table has no posting
none_of : (b : Bool) (o : Option Postings) (q : Bytes) → o ≡ None
    → get {R = text_cmp} (unwrap_or (cond b (Some empty) o) empty) q ≡ None
none_of true o q e = get-empty text_cmp q
none_of false o q e = ap (λ o. get {R = text_cmp} (unwrap_or o empty) q) e ∙ get-empty text_cmp q

none_yet : (s : Text) (q : Bytes) → posting new_table s q ≡ None
none_yet s q =
    ap (λ o. get {R = text_cmp} (unwrap_or o empty) q) (get-insert nat_list_cmp_total empty [] empty s)
    ∙ none_of (is_eq (text_cmp s [])) (get empty s) q (get-empty text_cmp s)

pub no_piece_yet : (groups : List (List Bytes)) (tables news : List Table) → length news ≡ length tables
    → ((i : ℕ) (d : Table) → i < length news → get_or news i d ≡ new_table) → HavePostingsOf groups [] tables news
no_piece_yet groups tables news many are = record {
  many = many;
  each = λ i d lt s q. ap (λ T. posting T s q) (are i d (omega (arith, many, lt))) ∙ none_yet s q;
}

length-replicate : (n : ℕ) (T : Table) → length (replicate n T) ≡ n
length-replicate zero T = refl
length-replicate (suc n) T = ap suc (length-replicate n T)

each_replicate : (n : ℕ) (T : Table) (i : ℕ) (d : Table) → i < n → get_or (replicate n T) i d ≡ T
each_replicate zero T i d lt = absurd (omega (arith, lt))
each_replicate (suc n) T zero d lt = refl
each_replicate (suc n) T (suc i) d lt = each_replicate n T i d (omega (arith, lt))

pub new_alone : (groups : List (List Bytes)) (tables : List Table)
    → HavePostingsOf groups [] tables (replicate (length tables) new_table)
new_alone groups tables =
    let many = length-replicate (length tables) new_table in
    no_piece_yet groups tables (replicate (length tables) new_table) many
    (λ i d lt. each_replicate (length tables) new_table i d (omega (arith, lt, many)))
