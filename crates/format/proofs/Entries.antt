-- The entries of a sheet with good values, put into their slots and taken out again, are the same entries.
use Rattle.std.specs.Prelude.{if◌then◌else◌}
use mathlib.Core.Path.{◌≡◌, refl, sym, ap, ap₂, ◌∙◌}
use mathlib.Core.Logic.{◌⊎◌, inl, inr}
use Prim.Native.Nat.{ℕ, ◌≤◌, ◌<◌}
use native.Mathlib.Omega.{arith}
use native.Mathlib.Nat.{le_refl, le_of_eq}
use mathlib.Core.Bool.{Bool, true, false, not, ◌&&◌, ◌||◌}
use mathlib.Core.List.{List, [], ◌∷◌, ◌++◌, map}
use lib.Dec.{eqb, leb, ltb}
use lib.ListN.{length}
use borrow.Author.Tests.{eqb-true, eq-eqb, ne_eqb, ltb-true, lt-ltb}
use Rattle.format.specs.Bytes.{is_empty, all, up_to, past}
use Rattle.format.specs.Fields.{isil_of, isil, alternative}
use Rattle.format.specs.Chain.{named, summed, well_formed, carriable}
use Rattle.format.specs.Elements.{Content, table, numbers, required, set_info, shape, form, value, values_at, clash, sound}
use Rattle.format.specs.Sheet.{Entry, rising_from, rising, find, carried_in, content_of, formed, present, good_values, entries_at, carried_entries, entries}
use Rattle.format.proofs.Tests.{never, and_l, and_r, and_i, not_t, or-inv, or_l, or_r, all-mono}
use Rattle.format.proofs.Values.{required-shape}
use Rattle.format.proofs.Slots.{kind-of, values_length, sound-parts, parts-sound}

-- ---- what a form says of its number and of its bytes

-- a number of the list, or 255
is_in : List ℕ → ℕ → Bool
is_in [] m = eqb m 255
is_in (n ∷ ns) m = eqb m n || is_in ns m

form_in : (n : ℕ) (s : List ℕ) → form n s ≡ true → is_in numbers n ≡ true
unfolding form shape is_in all
form_in n s e =
    let r = kind-of (λ r. r.shape s) (λ r. is_in numbers r.number) table n (and_l (shape n s) (leb (length s) 255) e) refl in ap (is_in numbers) r.1 ∙ r.3

form-full : (n : ℕ) (s : List ℕ) → form n s ≡ true → is_empty s ≡ false
unfolding form shape isil isil_of up_to past all set_info alternative carriable well_formed named summed
form-full n [] e = let r = kind-of (λ r. r.shape []) (λ r. not (r.shape [])) table n (and_l (shape n []) true e) refl in never (cc (r.2, r.3))
form-full n (x ∷ s) e = refl

-- ---- entries in order

ascending : ℕ → List ℕ → Bool
ascending n [] = ltb n 255
ascending n (m ∷ ms) = ltb n m && ascending m ms

below : (n : ℕ) (ns : List ℕ) → ascending n ns ≡ true → n < 255
unfolding ascending
below n [] e = ltb-true n 255 e
below n (m ∷ ns) e = omega (arith, ltb-true n m (and_l (ltb n m) (ascending m ns) e), below m ns (and_r (ltb n m) (ascending m ns) e))

in-above : (n : ℕ) (ns : List ℕ) (m : ℕ) → ascending n ns ≡ true → is_in ns m ≡ true → n < m
unfolding ascending is_in
in-above n [] m e h = omega (arith, ltb-true n 255 e, eqb-true m 255 h)
in-above n (k ∷ ns) m e h =
    let nk : n < k = ltb-true n k (and_l (ltb n k) (ascending k ns) e) in
    elim (or-inv (eqb m k) (is_in ns m) h)
    [ inl q ↦ omega (arith, eqb-true m k q) | inr q ↦ omega (arith, in-above k ns m (and_r (ltb n k) (ascending k ns) e) q) ]

-- a number may follow another
abbrev next : ℕ → ℕ → Bool
next n m = ltb n m || (eqb n 255 && eqb m 255)

abbrev over : ℕ → List Entry → Bool
over n es = all (λ (e : Entry). ltb n e.number) es

abbrev within : List ℕ → List Entry → Bool
within ns es = all (λ (e : Entry). is_in ns e.number) es

abbrev full : List Entry → Bool
full es = all (λ (e : Entry). not (is_empty e.bytes)) es

rise-over : (n k : ℕ) (es : List Entry) → n < 255 → n ≤ k → rising_from k es ≡ true → over n es ≡ true
unfolding rising_from all
rise-over n k [] h l e = refl
rise-over n k (x ∷ es) h l e =
    let a : Bool = ltb k x.number || (eqb k 255 && eqb x.number 255) in
    let gt : n < x.number = elim (or-inv (ltb k x.number) (eqb k 255 && eqb x.number 255) (and_l a (rising_from x.number es) e)) [
      | inl q ↦ omega (arith, ltb-true k x.number q)
      | inr q ↦ omega (arith, eqb-true x.number 255 (and_r (eqb k 255) (eqb x.number 255) q))
    ] in
    and_i (lt-ltb n x.number gt) (rise-over n x.number es h (omega arith) (and_r a (rising_from x.number es) e))

narrow : (n : ℕ) (ns : List ℕ) (es : List Entry) → over n es ≡ true → within (n ∷ ns) es ≡ true → within ns es ≡ true
unfolding all is_in
narrow n ns [] o w = refl
narrow n ns (x ∷ es) o w =
    let ne : eqb x.number n ≡ false = ne_eqb x.number n (omega (arith, ltb-true n x.number (and_l (ltb n x.number) (over n es) o))) in
    and_i (rw ne at (and_l (is_in (n ∷ ns) x.number) (within (n ∷ ns) es) w)) (narrow n ns es (and_r (ltb n x.number) (over n es) o) (and_r (is_in (n ∷ ns) x.number) (within (n ∷ ns) es) w))

find_none : (n : ℕ) (es : List Entry) → over n es ≡ true → find n es ≡ []
unfolding all find
find_none n [] o = refl
find_none n (x ∷ es) o =
    rw (ne_eqb x.number n (omega (arith, ltb-true n x.number (and_l (ltb n x.number) (over n es) o)))) (find_none n es (and_r (ltb n x.number) (over n es) o))

-- an entry below every number of the list is found by none of them
find-skip : (n : ℕ) (ns : List ℕ) (x : Entry) (es : List Entry) → ascending n ns ≡ true → x.number ≤ n → map (λ k. find k (x ∷ es)) ns ≡ map (λ k. find k es) ns
unfolding ascending find
find-skip n [] x es a l = refl
find-skip n (m ∷ ns) x es a l =
    let nm : n < m = ltb-true n m (and_l (ltb n m) (ascending m ns) a) in
    rw (ne_eqb x.number m (omega arith)) (ap (λ (r : List (List ℕ)). find m es ∷ r) (find-skip m ns x es (and_r (ltb n m) (ascending m ns) a) (omega arith)))

abbrev sorted : List ℕ → List Entry → List Entry
sorted ns es = entries_at ns (map (λ n. find n es) ns) ++ carried_entries (carried_in es)

sort-none : (es : List Entry) → within [] es ≡ true → sorted [] es ≡ es
unfolding all is_in carried_in carried_entries entries_at
sort-none [] w = refl
sort-none (x ∷ es) w =
    let q : eqb x.number 255 ≡ true = and_l (eqb x.number 255) (within [] es) w in
    rw q (ap₂ (λ (n : ℕ) (r : List Entry). record { number = n; bytes = x.bytes } ∷ r) (sym (eqb-true x.number 255 q)) (sort-none es (and_r (eqb x.number 255) (within [] es) w)))

abbrev Sorts : ℕ → List ℕ → List Entry → Type 0
Sorts lo ns es = rising_from lo es ≡ true → within ns es ≡ true → full es ≡ true → sorted ns es ≡ es

module _ (n : ℕ) (ns : List ℕ) (x : Entry) (es : List Entry) (a : ascending n ns ≡ true) (r : rising_from x.number es ≡ true) (w : within (n ∷ ns) (x ∷ es) ≡ true) (f : full (x ∷ es) ≡ true) where
  below-n : n < 255
  below-n = below n ns a

  full-x : (is_empty x.bytes ≡ false) × (full es ≡ true)
  unfolding all
  full-x = (not_t (is_empty x.bytes) (and_l (not (is_empty x.bytes)) (full es) f), and_r (not (is_empty x.bytes)) (full es) f)

  -- the first entry has the first number
  sort-hit : x.number ≡ n → Sorts n ns es → sorted (n ∷ ns) (x ∷ es) ≡ x ∷ es
  unfolding all entries_at find carried_in
  sort-hit q ih =
      let rn : rising_from n es ≡ true = rw q at r in
      let wn : within ns es ≡ true = narrow n ns es (rise-over n n es below-n (le_refl n) rn) (and_r (is_in (n ∷ ns) x.number) (within (n ∷ ns) es) w) in
      let rest : sorted ns es ≡ es = ih rn wn full-x.1 in
      rw (find-skip n ns x es a (le_of_eq q), eq-eqb x.number n q, full-x.0, ne_eqb x.number 255 (omega (arith, below-n)))
      (ap₂ (λ (m : ℕ) (l : List Entry). record { number = m; bytes = x.bytes } ∷ l) (sym q) rest)

  -- it has another, so nothing has the first number
  sort-miss : eqb x.number n ≡ false → Sorts n ns (x ∷ es) → sorted (n ∷ ns) (x ∷ es) ≡ x ∷ es
  unfolding all entries_at is_in rising_from
  sort-miss q ih =
      let m : is_in ns x.number ≡ true = rw q at (and_l (is_in (n ∷ ns) x.number) (within (n ∷ ns) es) w) in
      let nx : n < x.number = in-above n ns x.number a m in
      let ox : over n (x ∷ es) ≡ true = and_i (lt-ltb n x.number nx) (rise-over n x.number es below-n (omega arith) r) in
      let rn : rising_from n (x ∷ es) ≡ true = and_i (or_l _ _ (lt-ltb n x.number nx)) r in
      rw (find_none n (x ∷ es) ox) (ih rn (narrow n ns (x ∷ es) ox w) f)

sort-back : (lo : ℕ) (ns : List ℕ) (es : List Entry) → ascending lo ns ≡ true → Sorts lo ns es
unfolding ascending rising_from all entries_at find
sort-back lo [] es a r w f = sort-none es w
sort-back lo (n ∷ ns) [] a r w f = sort-back n ns [] (and_r (ltb lo n) (ascending n ns) a) refl refl refl
sort-back lo (n ∷ ns) (x ∷ es) a r w f =
    go (eqb x.number n) refl (sort-back n ns es an) (sort-back n ns (x ∷ es) an)
  where
    an : ascending n ns ≡ true
    an = and_r (ltb lo n) (ascending n ns) a

    rx : rising_from x.number es ≡ true
    rx = and_r (ltb lo x.number || (eqb lo 255 && eqb x.number 255)) (rising_from x.number es) r

    go : (t : Bool) → eqb x.number n ≡ t → Sorts n ns es → Sorts n ns (x ∷ es) → sorted (n ∷ ns) (x ∷ es) ≡ x ∷ es
    go true q hit miss = sort-hit n ns x es an rx w f (eqb-true x.number n q) hit
    go false q hit miss = sort-miss n ns x es an rx w f q miss

forms-in : (es : List Entry) → all formed es ≡ true → (within numbers es ≡ true) × (full es ≡ true)
unfolding all
forms-in [] h = (refl, refl)
forms-in (x ∷ es) h =
    let a = and_l (form x.number x.bytes) _ h in
    let r = forms-in es (and_r (form x.number x.bytes) _ h) in
    (and_i (form_in x.number x.bytes a) r.0, and_i (ap not (form-full x.number x.bytes a)) r.1)

rising-zero : (es : List Entry) → within numbers es ≡ true → rising es ≡ true → rising_from 0 es ≡ true
unfolding rising rising_from all ascending
rising-zero [] w r = refl
rising-zero (x ∷ es) w r = and_i (or_l _ _ (lt-ltb 0 x.number (in-above 0 numbers x.number refl (and_l (is_in numbers x.number) (within numbers es) w)))) r

-- entries with good values come back from their content
pub entries-content : (es : List Entry) → rising es ≡ true → all formed es ≡ true → entries (content_of es) ≡ es
unfolding entries content_of ascending
entries-content es r h =
    let k = forms-in es h in
    sort-back 0 numbers es refl (rising-zero es k.0 r) k.0 k.1

-- ---- the content of entries with good values is sound

abbrev forms : List Entry → Bool
forms es = all formed es

find-form : (n : ℕ) (es : List Entry) → forms es ≡ true → (find n es ≡ []) ⊎ (form n (find n es) ≡ true)
unfolding all find
find-form n [] h = inl refl
find-form n (x ∷ es) h = go (eqb x.number n) refl (find-form n es (and_r (form x.number x.bytes) (forms es) h))
  where
    go : (t : Bool) → eqb x.number n ≡ t → (find n es ≡ []) ⊎ (form n (find n es) ≡ true)
        → ((if t then x.bytes else find n es) ≡ []) ⊎ (form n (if t then x.bytes else find n es) ≡ true)
    go true q ih = inr (rw (eqb-true x.number n q) at (and_l (form x.number x.bytes) (forms es) h))
    go false q ih = ih

find-value : (n : ℕ) (es : List Entry) → forms es ≡ true → present es n ≡ true → value n (find n es) ≡ true
unfolding value
find-value n es h p = elim (find-form n es h) [
  | inl e ↦ elim (or-inv (not (required n)) (not (is_empty (find n es))) p) [ inl q ↦ rw e q | inr q ↦ never (cc (rw e at q)) ]
  | inr e ↦ rw (form-full n (find n es) e) e
]

pub find-values : (ns : List ℕ) (es : List Entry) → forms es ≡ true → all (present es) ns ≡ true → values_at ns (map (λ n. find n es) ns) ≡ true
unfolding values_at all
find-values [] es h p = refl
find-values (n ∷ ns) es h p = and_i (find-value n es h (and_l (present es n) (all (present es) ns) p)) (find-values ns es h (and_r (present es n) (all (present es) ns) p))

pub carried-forms : (es : List Entry) → forms es ≡ true → all (form 255) (carried_in es) ≡ true
unfolding all carried_in
carried-forms [] h = refl
carried-forms (x ∷ es) h = go (eqb x.number 255) refl (carried-forms es (and_r (form x.number x.bytes) (forms es) h))
  where
    go : (t : Bool) → eqb x.number 255 ≡ t → all (form 255) (carried_in es) ≡ true → all (form 255) (if t then x.bytes ∷ carried_in es else carried_in es) ≡ true
    go true q ih =
        let f : form 255 x.bytes ≡ true = rw (eqb-true x.number 255 q) at (and_l (form x.number x.bytes) (forms es) h) in
        and_i f ih
    go false q ih = ih

pub values-parts : (es : List Entry) → good_values es ≡ true → (forms es ≡ true) × (all (present es) numbers ≡ true)
unfolding good_values
values-parts es g = (and_l (forms es) (all (present es) numbers) g, and_r (forms es) (all (present es) numbers) g)

numbers-at : (f : ℕ → Bool) → all f numbers ≡ true → f 4 ≡ true
unfolding all
numbers-at f e = and_l (f 4) _ (and_r (f 3) _ (and_r (f 1) _ e))

pub values-sound : (es : List Entry) → good_values es ≡ true → clash (content_of es).slots ≡ false → sound (content_of es) ≡ true
unfolding content_of
values-sound es g k =
    let v = values-parts es g in
    parts-sound (content_of es) (record { values = find-values numbers es v.0 v.1; blocks = carried-forms es v.0; clear = k })

-- a bad element 4 is no good value
pub bad-set : (es : List Entry) → set_info (find 4 es) ≡ false → good_values es ≡ false
unfolding shape
bad-set es bad = go (good_values es) refl
  where
    go : (t : Bool) → good_values es ≡ t → t ≡ false
    go true g =
        let v = values-parts es g in
        let s : set_info (find 4 es) ≡ true = required-shape 4 (find 4 es) refl (find-value 4 es v.0 (numbers-at (present es) v.1)) in
        never (cc)
    go false g = refl

-- ---- the other way: the entries of a sound content have good values, and give the content back

over-tails : (n : ℕ) (cs : List (List ℕ)) → n < 255 → over n (carried_entries cs) ≡ true
unfolding all carried_entries
over-tails n [] h = refl
over-tails n (c ∷ cs) h = and_i (lt-ltb n 255 h) (over-tails n cs h)

over-at : (n : ℕ) (ns : List ℕ) (ss cs : List (List ℕ)) → ascending n ns ≡ true → over n (entries_at ns ss ++ carried_entries cs) ≡ true
unfolding all entries_at ascending
over-at n [] ss cs a = over-tails n cs (ltb-true n 255 a)
over-at n (m ∷ ns) [] cs a = over-tails n cs (below n (m ∷ ns) a)
over-at n (m ∷ ns) (s ∷ ss) cs a = go (is_empty s) (over-at m ns ss cs (and_r (ltb n m) (ascending m ns) a))
  where
    nm : n < m
    nm = ltb-true n m (and_l (ltb n m) (ascending m ns) a)

    weaker : (es : List Entry) → over m es ≡ true → over n es ≡ true
    weaker es o = all-mono (λ (e : Entry). ltb m e.number) (λ (e : Entry). ltb n e.number) (λ e h. lt-ltb n e.number (omega (arith, nm, ltb-true m e.number h))) es o

    go : (t : Bool) → over m (entries_at ns ss ++ carried_entries cs) ≡ true
        → over n ((if t then entries_at ns ss else record { number = m; bytes = s } ∷ entries_at ns ss) ++ carried_entries cs) ≡ true
    go true ih = weaker (entries_at ns ss ++ carried_entries cs) ih
    go false ih = and_i (lt-ltb n m nm) (weaker (entries_at ns ss ++ carried_entries cs) ih)

find-back : (lo : ℕ) (ns : List ℕ) (ss cs : List (List ℕ)) → ascending lo ns ≡ true → length ss ≡ length ns
    → map (λ n. find n (entries_at ns ss ++ carried_entries cs)) ns ≡ ss
unfolding entries_at find ascending
find-back lo [] [] cs a l = refl
find-back lo [] (s ∷ ss) cs a l = absurd (omega arith)
find-back lo (n ∷ ns) [] cs a l = absurd (omega arith)
find-back lo (n ∷ ns) ([] ∷ ss) cs a l =
    let an = and_r (ltb lo n) (ascending n ns) a in
    ap₂ (λ (x : List ℕ) (y : List (List ℕ)). x ∷ y) (find_none n (entries_at ns ss ++ carried_entries cs) (over-at n ns ss cs an)) (find-back n ns ss cs an (omega arith))
find-back lo (n ∷ ns) ((x ∷ s) ∷ ss) cs a l =
    let an = and_r (ltb lo n) (ascending n ns) a in
    let e : Entry = record { number = n; bytes = x ∷ s } in
    rw (eq-eqb n n refl)
    (ap (λ (y : List (List ℕ)). (x ∷ s) ∷ y) (find-skip n ns e (entries_at ns ss ++ carried_entries cs) an (le_refl n) ∙ find-back n ns ss cs an (omega arith)))

carried-tails : (cs : List (List ℕ)) → carried_in (carried_entries cs) ≡ cs
unfolding carried_in carried_entries
carried-tails [] = refl
carried-tails (c ∷ cs) = ap (λ (y : List (List ℕ)). c ∷ y) (carried-tails cs)

carried-back : (lo : ℕ) (ns : List ℕ) (ss cs : List (List ℕ)) → ascending lo ns ≡ true → carried_in (entries_at ns ss ++ carried_entries cs) ≡ cs
unfolding entries_at carried_in ascending
carried-back lo [] ss cs a = carried-tails cs
carried-back lo (n ∷ ns) [] cs a = carried-tails cs
carried-back lo (n ∷ ns) ([] ∷ ss) cs a = carried-back n ns ss cs (and_r (ltb lo n) (ascending n ns) a)
carried-back lo (n ∷ ns) ((x ∷ s) ∷ ss) cs a =
    let an = and_r (ltb lo n) (ascending n ns) a in
    rw (ne_eqb n 255 (omega (arith, below n ns an))) (carried-back n ns ss cs an)

rise-down : (lo n : ℕ) (es : List Entry) → over lo es ≡ true → rising_from n es ≡ true → rising_from lo es ≡ true
unfolding all rising_from
rise-down lo n [] o r = refl
rise-down lo n (x ∷ es) o r = and_i (or_l _ _ (and_l (ltb lo x.number) (over lo es) o)) (and_r (next n x.number) (rising_from x.number es) r)

rise-tails : (cs : List (List ℕ)) → rising_from 255 (carried_entries cs) ≡ true
unfolding rising_from carried_entries
rise-tails [] = refl
rise-tails (c ∷ cs) = rise-tails cs

rise-back : (lo : ℕ) (ns : List ℕ) (ss cs : List (List ℕ)) → ascending lo ns ≡ true → rising_from lo (entries_at ns ss ++ carried_entries cs) ≡ true
unfolding entries_at ascending rising_from
rise-back lo [] ss cs a = rise-down lo 255 (carried_entries cs) (over-tails lo cs (ltb-true lo 255 a)) (rise-tails cs)
rise-back lo (n ∷ ns) [] cs a = rise-down lo 255 (carried_entries cs) (over-tails lo cs (below lo (n ∷ ns) a)) (rise-tails cs)
rise-back lo (n ∷ ns) ([] ∷ ss) cs a =
    rise-down lo n (entries_at ns ss ++ carried_entries cs) (over-at lo (n ∷ ns) ([] ∷ ss) cs a) (rise-back n ns ss cs (and_r (ltb lo n) (ascending n ns) a))
rise-back lo (n ∷ ns) ((x ∷ s) ∷ ss) cs a =
    and_i (or_l _ _ (and_l (ltb lo n) (ascending n ns) a)) (rise-back n ns ss cs (and_r (ltb lo n) (ascending n ns) a))

forms-tails : (cs : List (List ℕ)) → all (form 255) cs ≡ true → forms (carried_entries cs) ≡ true
unfolding all carried_entries
forms-tails [] h = refl
forms-tails (c ∷ cs) h = and_i (and_l (form 255 c) (all (form 255) cs) h) (forms-tails cs (and_r (form 255 c) (all (form 255) cs) h))

forms-back : (ns : List ℕ) (ss cs : List (List ℕ)) → values_at ns ss ≡ true → all (form 255) cs ≡ true → forms (entries_at ns ss ++ carried_entries cs) ≡ true
unfolding all entries_at values_at value
forms-back [] [] cs v h = forms-tails cs h
forms-back [] (s ∷ ss) cs v h = forms-tails cs h
forms-back (n ∷ ns) [] cs v h = forms-tails cs h
forms-back (n ∷ ns) ([] ∷ ss) cs v h = forms-back ns ss cs (and_r (value n []) (values_at ns ss) v) h
forms-back (n ∷ ns) ((x ∷ s) ∷ ss) cs v h =
    and_i (and_l (value n (x ∷ s)) (values_at ns ss) v) (forms-back ns ss cs (and_r (value n (x ∷ s)) (values_at ns ss) v) h)

zero-rising : (es : List Entry) → rising_from 0 es ≡ true → rising es ≡ true
unfolding rising rising_from
zero-rising [] r = refl
zero-rising (x ∷ es) r = and_r (next 0 x.number) (rising_from x.number es) r

present-at : (es : List Entry) (n : ℕ) (s : List ℕ) → find n es ≡ s → value n s ≡ true → present es n ≡ true
unfolding value
present-at es n [] f v = or_l (not (required n)) _ v
present-at es n (x ∷ s) f v = or_r (not (required n)) _ (rw f)

-- what is found for each number is a value, so what is always present is there
all-present : (es : List Entry) (ns : List ℕ) (ss : List (List ℕ)) → map (λ n. find n es) ns ≡ ss → values_at ns ss ≡ true → all (present es) ns ≡ true
unfolding values_at all
all-present es [] ss f v = refl
all-present es (n ∷ ns) [] f v = refl_of (cc)
  where
    refl_of : ◌≡◌ {A = ℕ} 0 1 → all (present es) (n ∷ ns) ≡ true
    refl_of z = never z
all-present es (n ∷ ns) (s ∷ ss) f v =
    let h : find n es ≡ s = cc in
    let t : map (λ n. find n es) ns ≡ ss = cc in
    and_i (present-at es n s h (and_l (value n s) (values_at ns ss) v)) (all-present es ns ss t (and_r (value n s) (values_at ns ss) v))

pub record Entered (c : Content) (es : List Entry) : Type 0 where
  pub order : rising es ≡ true
  pub values : good_values es ≡ true
  pub content : content_of es ≡ c

pub content-entries : (c : Content) → sound c ≡ true → Entered c (entries c)
unfolding entries good_values content_of ascending
content-entries c e =
    let k = sound-parts c e in
    let fb = find-back 0 numbers c.slots c.carried refl (values_length numbers c.slots k.values) in
    record {
      order = zero-rising (entries c) (rise-back 0 numbers c.slots c.carried refl);
      values = and_i (forms-back numbers c.slots c.carried k.values k.blocks) (all-present (entries c) numbers c.slots fb k.values);
      content = ap₂ (λ (p q : List (List ℕ)). record { slots = p; carried = q }) fb (carried-back 0 numbers c.slots c.carried refl);
    }
