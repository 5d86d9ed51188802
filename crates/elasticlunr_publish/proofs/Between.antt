-- The first place of a part in a text.
use Rattle.std.proofs.Common.{◌≡◌, ◌≢◌, ◌<◌, ◌≤◌, ◌+◌, ℕ, List, [], ◌∷◌, ◌++◌, length, take, drop}
use Rattle.std.proofs.Common.{Bor, sym, ap, subst, ◌∙◌, arith, Option, Some, None}
use Rattle.std.proofs.Common.{length-append}
use Rattle.std.specs.Prelude.{IfSome, IfNone, MatchOption, codes}
use Rattle.std.specs.Str.Pattern.{FindsText, LacksTextAt, HasTextAt}
use Rattle.std.proofs.Math.Seq.{drop-append_seam, take-append_seam}
use Rattle.std.proofs.lemmas.List.{append_cancel_left}
use Rattle.std.proofs.lemmas.Str.Pattern.{split_text_parts}
use Rattle.elasticlunr_publish.specs.Names.{Bytes, HasFolder, IsAround, IsFolderName, Lacks}

-- the clause of `split_once` at a text
abbrev pub SplitsOnce : Bytes → Bytes → Option (Bor Bytes × Bor Bytes) → Type 0
SplitsOnce part text r = MatchOption r (FindsText part text None)
    (λ x. (i : ℕ) × (j : ℕ) × FindsText part text (Some (i, j)) × (x.0.now ≡ take i text)
    × (x.1.now ≡ drop j text) × (i ≤ j) × (length x.0.now ≡ i)
    × (length x.1.now + j ≡ length text))

at : (part text front back : Bytes) → text ≡ front ++ (part ++ back)
    → drop (length front) text ≡ part ++ back
at part text front back e = ap (drop (length front)) e ∙ drop-append_seam front (part ++ back)

front_at : (text front rest : Bytes) → text ≡ front ++ rest → take (length front) text ≡ front
front_at text front rest e = ap (take (length front)) e ∙ take-append_seam front rest

not_before : (part text front back : Bytes) (i : ℕ)
    → ((k : ℕ) → k < i → LacksTextAt part text k) → text ≡ front ++ (part ++ back)
    → length front < i → ⊥
not_before part text front back i lacks e h =
    lacks (length front) h back (at part text front back e)

pub first_some : (part text : Bytes) (r : Option (Bor Bytes × Bor Bytes)) → SplitsOnce part text r
    → IfSome r (λ both. IsAround part text both.0.now both.1.now)
first_some part text None h = tt
first_some part text (Some both) (i, j, (lacks, has), is_front, is_back, le, front, back) = record {
  split = split_text_parts part text (Some both) (i, j, (lacks, has), is_front, is_back, le, front, back);
  first = λ earlier later e. not_less (length both.0.now) (length earlier)
      (λ h. not_before part text earlier later i lacks e (subst (λ n. length earlier < n) front h));
} where
  not_less : (m n : ℕ) → (n < m → ⊥) → m ≤ n
  not_less m n h = omega (arith, h)

pub first_none : (part text : Bytes) (r : Option (Bor Bytes × Bor Bytes)) → SplitsOnce part text r
    → IfNone r (Lacks part text)
first_none part text None h = split_text_parts part text None h
first_none part text (Some both) h = tt

same_length : (m n : ℕ) → m ≤ n → n ≤ m → m ≡ n
same_length m n a b = omega (arith, a, b)

-- the first place is one place
one_front : (part text front back front' back' : Bytes) → IsAround part text front back
    → IsAround part text front' back' → front ≡ front'
one_front part text front back front' back' a b =
    let same = same_length (length front) (length front') (a.first front' back' b.split)
    (b.first front back a.split) in
    sym (front_at text front (part ++ back) a.split) ∙ (ap (λ n. take n text) same
    ∙ front_at text front' (part ++ back') b.split)

one_back : (part text front back front' back' : Bytes) → IsAround part text front back
    → IsAround part text front' back' → back ≡ back'
one_back part text front back front' back' a b =
    let same = one_front part text front back front' back' a b in
    append_cancel_left part back back' (append_cancel_left front (part ++ back) (part ++ back')
    (sym a.split ∙ (b.split ∙ ap (λ it. it ++ (part ++ back')) (sym same))))

-- a head names a folder only as its first member of this key
pub one_folder : (head front after name back other : Bytes)
    → IsAround (codes "\"folder\":\"") head front after → IsAround (codes "\"") after name back
    → HasFolder head other → name ≡ other
one_folder head front after name back other opened closed has =
    let same = one_back (codes "\"folder\":\"") head front after has.front has.after opened
    has.opened in
    one_front (codes "\"") after name back other has.back closed
    (subst (λ it. IsAround (codes "\"") it other has.back) (sym same) has.closed)

-- without a quotation mark after it, it names none
pub no_folder : (head front after other : Bytes) → IsAround (codes "\"folder\":\"") head front after
    → Lacks (codes "\"") after → HasFolder head other → ⊥
no_folder head front after other opened lacks has =
    let same = one_back (codes "\"folder\":\"") head front after has.front has.after opened
    has.opened in
    lacks other has.back (same ∙ has.closed.split)
