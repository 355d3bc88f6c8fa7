-- Lists that are made entry by entry, and what stands at a place of one.
use Rattle.std.proofs.Common.{◌≡◌, ℕ, zero, suc, ◌+◌, ◌-◌, ◌<◌, ◌≤◌, min, List, [], ◌∷◌, ◌++◌, map, length, get_or, take, drop, set, Some, sym, refl, ap, ◌∙◌, arith, length-append, length-take}
use Rattle.std.specs.List.{slice_get}
use Rattle.std.proofs.lemmas.List.{take_all, drop_all, append-nil, drop_more, take_more, get_or_at, set_at, append_assoc, take-take, drop-take, take-map, drop-map}
use Rattle.std.proofs.lemmas.Option.{slice_get_within, get_or_from_slice_get}
use Rattle.reels.specs.Samples.{cut}

pub nth_take : {X : Type 0} (n : ℕ) (xs : List X) (i : ℕ) → i < n → slice_get (take n xs) i ≡ slice_get xs i
nth_take zero xs i h = absurd (omega arith)
nth_take (suc n) [] i h = refl
nth_take (suc n) (x ∷ xs) zero h = refl
nth_take (suc n) (x ∷ xs) (suc i) h = nth_take n xs i (omega arith)

pub nth_drop : {X : Type 0} (n : ℕ) (xs : List X) (i : ℕ) → slice_get (drop n xs) i ≡ slice_get xs (n + i)
nth_drop zero xs i = let e : 0 + i ≡ i = omega arith in rw e
nth_drop (suc n) [] i = refl
nth_drop (suc n) (x ∷ xs) i = let e : suc n + i ≡ suc (n + i) = omega arith in rw e (nth_drop n xs i)

pub nth_front : {X : Type 0} (xs ys : List X) (i : ℕ) → i < length xs → slice_get (xs ++ ys) i ≡ slice_get xs i
nth_front [] ys i h = absurd (omega arith)
nth_front (x ∷ xs) ys zero h = refl
nth_front (x ∷ xs) ys (suc i) h = nth_front xs ys i (omega arith)

pub nth_back : {X : Type 0} (xs ys : List X) (i : ℕ) → slice_get (xs ++ ys) (length xs + i) ≡ slice_get ys i
nth_back [] ys i = let e : 0 + i ≡ i = omega arith in rw e
nth_back (x ∷ xs) ys i = let e : suc (length xs) + i ≡ suc (length xs + i) = omega arith in rw e (nth_back xs ys i)

-- a list as far as a reel can have it
pub length_cut : {X : Type 0} (xs : List X) → length (cut xs) ≡ min 1073741824 (length xs)
unfolding cut
length_cut xs = length-take 1073741824 xs

pub joined_long : {X : Type 0} (xs ys : List X) → length (cut (xs ++ ys)) ≡ min 1073741824 (length xs + length ys)
joined_long xs ys = simp (length_cut, length-append)

pub nth_cut : {X : Type 0} (xs : List X) (i : ℕ) → i < 1073741824 → slice_get (cut xs) i ≡ slice_get xs i
unfolding cut
nth_cut xs i h = nth_take 1073741824 xs i h

-- two lists, one after the other, as far as a reel can have them
pub joined_front : {X : Type 0} (xs ys : List X) (i : ℕ) → i < 1073741824 → i < length xs → slice_get (cut (xs ++ ys)) i ≡ slice_get xs i
joined_front xs ys i h k = nth_cut (xs ++ ys) i h ∙ nth_front xs ys i k

pub joined_back : {X : Type 0} (xs ys : List X) (i : ℕ) → i < 1073741824 → length xs ≤ i → slice_get (cut (xs ++ ys)) i ≡ slice_get ys (i - length xs)
joined_back xs ys i h k =
    let here : i ≡ length xs + (i - length xs) = omega arith in
    nth_cut (xs ++ ys) i h ∙ ap (slice_get (xs ++ ys)) here ∙ nth_back xs ys (i - length xs)

pub cut_short : {X : Type 0} (xs : List X) → length xs ≤ 1073741824 → cut xs ≡ xs
unfolding cut
cut_short xs h = take_all 1073741824 xs h

-- a stretch of it that lies within it
pub stretch_cut : {X : Type 0} (xs : List X) (s n : ℕ) → s + n ≤ length (cut xs) → take n (drop s (cut xs)) ≡ take n (drop s xs)
unfolding cut
stretch_cut xs s n h =
    let few : s + n ≤ 1073741824 = let e = length-take 1073741824 xs in omega (arith, h) in
    sym (drop-take s n (take 1073741824 xs))
    ∙ ap (drop s) (take-take (s + n) 1073741824 xs few)
    ∙ drop-take s n xs

pub stretch_map : {X Y : Type 0} (f : X → Y) (xs : List X) (s n : ℕ) → take n (drop s (map f xs)) ≡ map f (take n (drop s xs))
stretch_map f xs s n = ap (take n) (drop-map f s xs) ∙ take-map f n (drop s xs)

-- beyond what is written, the old list stands
pub over_next : {X : Type 0} (done old : List X) (i : ℕ) (d : X) → length done ≡ i → i < length old → get_or (done ++ drop i old) i d ≡ get_or old i d
over_next done old i d n h = ap (λ v. get_or (done ++ v) i d) (drop_more old i d h) ∙ get_or_at done (get_or old i d) (drop (i + 1) old) d i n

-- One entry more of what is written over the front of a list.
pub over_step : {X : Type 0} (done more old : List X) (i : ℕ) (x : X) → length done ≡ i → i < length old → more ≡ done ++ x ∷ [] → set (done ++ drop i old) i x ≡ more ++ drop (i + 1) old
over_step done more old i x n h e =
    ap (λ v. set (done ++ v) i x) (drop_more old i x h) ∙ set_at done (get_or old i x) (drop (i + 1) old) x i n
    ∙ sym (append_assoc done (x ∷ []) (drop (i + 1) old)) ∙ ap (λ v. v ++ drop (i + 1) old) (sym e)

-- the same where what is written are the first entries of a list that is known whole
pub over_more : {X : Type 0} (new old : List X) (i : ℕ) (x : X) → i < length old → slice_get new i ≡ Some x → set (take i new ++ drop i old) i x ≡ take (i + 1) new ++ drop (i + 1) old
over_more new old i x h e =
    let w = slice_get_within new i x e in
    let n : length (take i new) ≡ i = let l = length-take i new in omega arith in
    over_step (take i new) (take (i + 1) new) old i x n h (take_more new i x w ∙ ap (λ v. take i new ++ v ∷ []) (get_or_from_slice_get new i x x e))

-- at the end nothing of the old list is left
pub over_all : {X : Type 0} (new old : List X) (n : ℕ) → length new ≤ n → length old ≤ n → take n new ++ drop n old ≡ new
over_all new old n a b = ap (λ v. take n new ++ v) (drop_all n old b) ∙ append-nil (take n new) ∙ take_all n new a
