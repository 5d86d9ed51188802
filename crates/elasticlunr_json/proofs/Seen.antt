-- What a map of the program represents, after each change.
use Rattle.std.proofs.Common.{◌≡◌, ◌≢◌, Bool, true, false, cond, length, unwrap_or, IfSome, arith, List, [], ◌∷◌}
use Rattle.std.proofs.Common.{Option, Some, None, option_map, map, refl, sym, ap, ◌∙◌, String, Global, string_bytes}
use Rattle.std.proofs.Common.{BTreeMap, bytes_eq, is_eq, is_some, nat_cmp, Result, Ok, Err, OnOk, OnErr}
use Rattle.std.specs.Ordering.{eq_by_cmp}
use Rattle.std.specs.Cmp.{eq_by_cmp_equiv}
use Rattle.std.specs.Cmp.Lexicographic.{slice_cmp}
use Rattle.std.specs.List.{AllZip}
use Rattle.std.specs.Map.{lookup, update}
use Rattle.std.specs.BTreeMap.{is_at, get_by_text}
use Rattle.std.proofs.lemmas.Cmp.{nat_list_cmp_total}
use Rattle.std.proofs.lemmas.Map.Text.{is_eq-slice_cmp}
use Rattle.std.specs.FinMap as finite
use Rattle.elasticlunr_error.specs.Text.{Bytes, text_cmp}
use Rattle.elasticlunr_json.specs.Maps.{seen}
use Rattle.elasticlunr_json.proofs.Texts.{text_tie, text_tied}

-- two maps that answer alike are one
pub same : {X : Type 0} (m n : finite.FinMap text_cmp X) → ((q : Bytes) → finite.get m q ≡ finite.get n q) → m ≡ n
same m n is = finite.same_map nat_list_cmp_total (finite.slice_cmp-IsAntisymmetric finite.nat_cmp-IsAntisymmetric) m n
    is

-- the order of texts ties those that are equal, whichever comes first
pub tie : (q r : Bytes) → eq_by_cmp text_cmp q r ≡ bytes_eq r q
tie q r = (eq_by_cmp_equiv nat_list_cmp_total).symm q r ∙ is_eq-slice_cmp r q

module _ {X Y : Type 0} (f : X → Y) where
  found : (b : Bool) (x : X) (rest : Option X) (y : Option Y) → y ≡ option_map f rest → cond b (Some (f x)) y
      ≡ option_map f (cond b (Some x) rest)
  found true x rest y e = refl
  found false x rest y e = e

  find_seen : (es : List (String Global × X)) (q : Bytes)
      → finite.find text_cmp q (map (λ e. (string_bytes e.0, f e.1)) es)
      ≡ option_map f (lookup (is_at (λ k. slice_cmp nat_cmp q (string_bytes k))) es)
  find_seen [] q = refl
  find_seen (e ∷ es) q = found (is_eq (slice_cmp nat_cmp q (string_bytes e.0))) e.1 _ _ (find_seen es q)

  -- a look-up in what the entries represent
  pub get_seen : (m : BTreeMap (String Global) X) (q : Bytes) → finite.get (seen f m.entries) q
      ≡ option_map f (get_by_text m q)
  get_seen m q = finite.get-from_entries nat_list_cmp_total _ q ∙ find_seen m.entries q

  pushed : (b : Bool) (w old : Option X) → option_map f (cond b w old) ≡ cond b (option_map f w) (option_map f old)
  pushed true w old = refl
  pushed false w old = refl

  changed : (m n : BTreeMap (String Global) X) (r : Bytes) (w : Option X)
      → ((q : Bytes) → get_by_text n q ≡ update bytes_eq (get_by_text m) r w q)
      → (q : Bytes) → finite.get (seen f n.entries) q ≡ cond (eq_by_cmp text_cmp q r) (option_map f w)
      (finite.get (seen f m.entries) q)
  changed m n r w up q = get_seen n q ∙ ap (option_map f) (up q) ∙ pushed (bytes_eq r q) w (get_by_text m q)
      ∙ ap (λ b. cond b (option_map f w) (option_map f (get_by_text m q))) (sym (tie q r))
      ∙ ap (cond (eq_by_cmp text_cmp q r) (option_map f w)) (sym (get_seen m q))

  -- with a value at the text
  pub seen_inserted : (m n : BTreeMap (String Global) X) (r : Bytes) (x : X)
      → ((q : Bytes) → get_by_text n q ≡ update bytes_eq (get_by_text m) r (Some x) q) → seen f n.entries
      ≡ finite.insert (seen f m.entries) r (f x)
  seen_inserted m n r x up = same _ _ (λ q. changed m n r (Some x) up q
      ∙ sym (finite.get-insert nat_list_cmp_total (seen f m.entries) r (f x) q))

  -- with none there
  pub seen_removed : (m n : BTreeMap (String Global) X) (r : Bytes)
      → ((q : Bytes) → get_by_text n q ≡ update bytes_eq (get_by_text m) r None q) → seen f n.entries
      ≡ finite.remove (seen f m.entries) r
  seen_removed m n r up = same _ _ (λ q. changed m n r None up q
      ∙ sym (finite.get-remove nat_list_cmp_total (seen f m.entries) r q))

-- to put what is there changes nothing
pub insert_itself : {X : Type 0} (m : finite.FinMap text_cmp X) (r : Bytes) (x : X) → finite.get m r ≡ Some x
    → finite.insert m r x ≡ m
insert_itself m r x is = same _ _ (λ q. finite.get-insert nat_list_cmp_total m r x q
    ∙ by q (eq_by_cmp text_cmp q r) refl)
  where
    by : (q : Bytes) (b : Bool) → eq_by_cmp text_cmp q r ≡ b → cond b (Some x) (finite.get m q) ≡ finite.get m q
    by q true e = sym is ∙ ap (finite.get m) (sym (text_tie q r e))
    by q false e = refl

pub is_some_map : {X Y : Type 0} (f : X → Y) (o : Option X) → is_some (option_map f o) ≡ is_some o
is_some_map f None = refl
is_some_map f (Some x) = refl

pub map_itself : {X : Type 0} (o : Option X) → option_map (λ x. x) o ≡ o
map_itself None = refl
map_itself (Some x) = refl

pub on_err : {T E : Type 0} (r : Result T E) (P : Type 0) → P → OnErr r P
on_err (Ok x) P p = tt
on_err (Err e) P p = p

pub on_ok : {T E : Type 0} (r : Result T E) (P Q : Type 0) → (P → Q) → OnOk r P → OnOk r Q
on_ok (Ok x) P Q f p = f p
on_ok (Err e) P Q f p = tt

pub on_err_map : {T E : Type 0} (r : Result T E) (P Q : Type 0) → (P → Q) → OnErr r P → OnErr r Q
on_err_map (Ok x) P Q f p = tt
on_err_map (Err e) P Q f p = f p

-- a clone represents the same
pub cloned : {X Y : Type 0} (f : X → Y) (D : X → X → Type 0) → ((x y : X) → D x y → f y ≡ f x)
    → (es fs : List (String Global × X)) → AllZip (λ p q. (string_bytes q.0 ≡ string_bytes p.0) × D p.1 q.1) es fs
    → seen f fs ≡ seen f es
cloned f D alike [] [] h = refl
cloned f D alike [] (q ∷ fs) h = absurd h
cloned f D alike (p ∷ es) [] h = absurd h
cloned f D alike (p ∷ es) (q ∷ fs) h = λ i. finite.insert (cloned f D alike es fs h.1 i) (h.0.0 i)
    (alike p.1 q.1 h.0.1 i)

-- a map with an entry is not empty
pub filled_map : {X : Type 0} (m : finite.FinMap text_cmp X) (k : Bytes) (x : X) → finite.insert m k x ≢ finite.empty
filled_map m k x e =
    let there : finite.get (finite.insert m k x) k ≡ Some x = finite.get-insert nat_list_cmp_total m k x k
    ∙ ap (λ b. cond b (Some x) (finite.get m k)) (text_tied k) in
    let gone : finite.get (finite.insert m k x) k ≡ None = ap (λ n. finite.get n k) e ∙ finite.get-empty text_cmp k in
    let both : None ≡ Some x = sym gone ∙ there in (cc)

-- entries that represent the empty map are none, and none represent it
pub bare_entries : {X Y : Type 0} (f : X → Y) (es : List (String Global × X)) → length es ≡ 0 → seen f es ≡ finite.empty
bare_entries f [] e = refl
bare_entries f (x ∷ es) e = absurd (omega arith)

pub some_entries : {X Y : Type 0} (f : X → Y) (es : List (String Global × X)) → ¬ (length es ≡ 0)
    → seen f es ≢ finite.empty
some_entries f [] e = absurd (e refl)
some_entries f (x ∷ es) e = filled_map (seen f es) (string_bytes x.0) (f x.1)

pub none_as_some : {X : Type 0} (o : Option X) (x : X) → IfSome o (λ y. y ≢ x) → o ≢ Some x
none_as_some None x h e = cc
none_as_some (Some y) x h e = h (ap (λ p. unwrap_or p y) e)
