-- Writing bits into cells of any width, from any bit on and without clearing the buffer first.
use Rattle.std.specs.Prelude.{◌≡◌, Bool, set}
use Rattle.std.proofs.Math.Path.{refl, sym, ap, ap₂}
use Rattle.std.proofs.Common.{◌∙◌, div-add-mod', div-lt_iff_lt-mul, zero-add, suc-add, add-zero, mod-lt, mod-eq_of_lt, add-one, length-drop, pow_pos, pow_mono, shr_lt, drop-cons, take-add, get_or-append-add, get_or-take, get_or-drop, length-take-le}
use Rattle.std.proofs.Math.Bool.{false}
use mathlib.Core.List.{List, [], ◌∷◌, ◌++◌, append_assoc, append-nil}
use Prim.Native.Nat.{ℕ, zero, suc, ◌+◌, ◌-◌, ◌*◌, ◌/◌, ◌%◌, ◌^◌, ◌≤◌, ◌<◌}
use Rattle.std.proofs.Math.Nat.{suc-mul, mul-le-mul_right, div-eq_of_lt, sub-zero, suc-sub-suc}
use native.Mathlib.Omega.{arith}
use Rattle.std.proofs.Math.ListN.{length, take, drop, get_or, length-append, get_or-append, get_or-eq_default}
use Rattle.std.proofs.Math.Pow.{split, low}
use Rattle.std.proofs.lemmas.Nat.{shl-shr, mod-pow-add, or_shifted}
use Rattle.std.specs.Int.Bits.{bit_or}
use Rattle.std.proofs.Math.Seq.{drop-drop, drop_at, take-append-le, take-append-add, drop-append-add, take-append_seam, drop-append_seam}
use Rattle.std.proofs.lemmas.List.{drop-append-le}
use Rattle.std.proofs.lemmas.List.Edits.{sets, sets-eq}
use Rattle.binary.specs.Bits.{bit, bits_of, cell, cell_count, fill, pack, unpack, bit_at, Small, in_front, write, high_bits}
use Rattle.binary.specs.Numbers.{length-bits_of, take_bits, split_bits, cell_lt, cell_nil, cell_bits, cell_join, cell_first, cell_short}
use Rattle.binary.specs.Packing.{cells_begun, cells_enough, cells_least, length-fill, length-pack, length-unpack, getD_pad, unpack-fill}
use Rattle.binary.specs.Packing.{unpack-pack, small_tail, fill-unpack, pack_small, unpack-append, drop-unpack}
use Rattle.binary.specs.Reading.{bit_at-unpack}

-- ---- in front of a buffer

module _ {A : Type 0} (new old : List A) where
  pub length-in_front : length new ≤ length old → length (in_front new old) ≡ length old
  unfolding in_front
  length-in_front h = rw (length-append, length-drop) (omega arith)

  pub take-in_front : take (length new) (in_front new old) ≡ new
  unfolding in_front
  take-in_front = take-append_seam new (drop (length new) old)

  pub drop-in_front : drop (length new) (in_front new old) ≡ drop (length new) old
  unfolding in_front
  drop-in_front = drop-append_seam new (drop (length new) old)

  -- a longer piece covers what was put in front before
  pub in_front_twice : (more : List A) → length new ≤ length more → in_front more (in_front new old) ≡ in_front more old
  unfolding in_front
  in_front_twice more h =
      let e : length new + (length more - length new) ≡ length more = omega arith in
      ap (λ l. more ++ l)
      (ap (λ n. drop n (new ++ drop (length new) old)) (sym e) ∙ drop-append-add new (drop (length new) old) (length more - length new)
      ∙ drop-drop (length more - length new) (length new) old ∙ ap (λ n. drop n old) e)

-- ---- writing on

small_append : (w : ℕ) (xs ys : List ℕ) → Small w xs → Small w ys → Small w (xs ++ ys)
small_append w [] ys s t k = t k
small_append w (x ∷ xs) ys s t zero = s 0
small_append w (x ∷ xs) ys s t (suc k) = small_append w xs ys (small_tail w x xs s) t k

small_drop : (w n : ℕ) (xs : List ℕ) → Small w xs → Small w (drop n xs)
small_drop w n xs s k = rw (get_or-drop n xs k 0) (s (n + k))

pub cells_mono : (w m n : ℕ) → 0 < w → m ≤ n → cell_count w m ≤ cell_count w n
cells_mono w m n h l = cells_least w m (cell_count w n) h (omega (arith, cells_enough w n h))

module _ (w : ℕ) (h : 0 < w) (xs : List ℕ) where
  first_length : (i : ℕ) (cs : List Bool) → i ≤ length xs * w → length (take i (unpack w xs) ++ cs) ≡ i + length cs
  first_length i cs l = rw (length-append, length-take-le i (unpack w xs) (rw length-unpack l)) refl

  -- what a buffer that is written holds up to the last written bit
  pub take-write : (i : ℕ) (cs : List Bool) → i ≤ length xs * w → take (i + length cs) (unpack w (write w xs i cs)) ≡ take i (unpack w xs) ++ cs
  unfolding write in_front
  take-write i [] l = rw (add-zero, append-nil) refl
  take-write i (c ∷ cs) l =
      let bs = take i (unpack w xs) ++ (c ∷ cs) in
      let n : length bs ≡ i + length (c ∷ cs) = first_length i (c ∷ cs) l in
      let m : length bs ≤ length (unpack w (pack w bs)) = rw (length-unpack, length-pack) (cells_enough w (length bs) h) in
      ap₂ (λ j l. take j l) (sym n) (unpack-append w (pack w bs) (drop (length (pack w bs)) xs))
      ∙ take-append-le (length bs) (unpack w (pack w bs)) (unpack w (drop (length (pack w bs)) xs)) m ∙ unpack-pack w h bs

  -- WRITING ON: bits written behind bits that were just written are written with them
  pub write-write : (i j : ℕ) (cs ds : List Bool) → i ≤ length xs * w → j ≡ i + length cs → write w (write w xs i cs) j ds ≡ write w xs i (cs ++ ds)
  unfolding write
  write-write i j cs ds l e = ap (λ k. write w (write w xs i cs) k ds) e ∙ go cs ds
    where
      go : (cs ds : List Bool) → write w (write w xs i cs) (i + length cs) ds ≡ write w xs i (cs ++ ds)
      go [] ds = ap (λ j. write w xs j ds) (add-zero i)
      go (c ∷ cs) [] = ap (write w xs i) (sym (append-nil (c ∷ cs)))
      go (c ∷ cs) (d ∷ ds) =
          let bs = take i (unpack w xs) ++ (c ∷ cs) in
          let es = take i (unpack w xs) ++ ((c ∷ cs) ++ (d ∷ ds)) in
          let t : take (i + length (c ∷ cs)) (unpack w (write w xs i (c ∷ cs))) ++ (d ∷ ds) ≡ es =
          ap (λ l. l ++ (d ∷ ds)) (take-write i (c ∷ cs) l) ∙ append_assoc (take i (unpack w xs)) (c ∷ cs) (d ∷ ds) in
          let n = first_length i (c ∷ cs) l in
          let m = first_length i ((c ∷ cs) ++ (d ∷ ds)) l in
          let k : length bs ≤ length es = omega (arith, length-append (c ∷ cs) (d ∷ ds)) in
          ap (λ l. in_front (pack w l) (in_front (pack w bs) xs)) t
          ∙ in_front_twice (pack w bs) xs (pack w es) (rw (length-pack w bs, length-pack w es) (cells_mono w (length bs) (length es) h k))

  -- what is written from the start is the packed bits in front of the buffer
  pub write-start : (cs : List Bool) → write w xs 0 cs ≡ in_front (pack w cs) xs
  unfolding write in_front pack
  write-start [] = let e : cell_count w 0 ≡ 0 = div-eq_of_lt {n = 0 + (w - 1)} {m = w} (omega arith) in rw e refl
  write-start (c ∷ cs) = refl

  -- THE BUFFER OF A CODE: whatever it held, once the bits are written one after another it has their packing in front
  pub write_on : (bs cs : List Bool) → write w (in_front (pack w bs) xs) (length bs) cs ≡ in_front (pack w (bs ++ cs)) xs
  write_on bs cs =
      ap (λ l. write w l (length bs) cs) (sym (write-start bs)) ∙ write-write 0 (length bs) bs cs (omega arith) (omega arith) ∙ write-start (bs ++ cs)

  -- ---- what a write leaves

  pub small_write : Small w xs → (i : ℕ) (cs : List Bool) → Small w (write w xs i cs)
  unfolding write in_front
  small_write s i [] = s
  small_write s i (c ∷ cs) =
      let new = pack w (take i (unpack w xs) ++ (c ∷ cs)) in
      small_append w new (drop (length new) xs) (pack_small w (take i (unpack w xs) ++ (c ∷ cs))) (small_drop w (length new) xs s)

  -- cells enough for the written bits
  enough : (i : ℕ) (cs : List Bool) → i + length cs ≤ length xs * w → length (pack w (take i (unpack w xs) ++ cs)) ≤ length xs
  enough i cs l =
      rw (length-pack, first_length i cs (omega arith)) (cells_least w (i + length cs) (length xs) h l)

  pub length-write : (i : ℕ) (cs : List Bool) → i + length cs ≤ length xs * w → length (write w xs i cs) ≡ length xs
  unfolding write
  length-write i [] l = refl
  length-write i (c ∷ cs) l = length-in_front (pack w (take i (unpack w xs) ++ (c ∷ cs))) xs (enough i (c ∷ cs) l)

  -- the bits before i stand
  pub write-before : (i : ℕ) (cs : List Bool) → i ≤ length xs * w → (k : ℕ) → k < i → bit_at w (write w xs i cs) k ≡ bit_at w xs k
  write-before i cs l k q =
      bit_at-unpack w h (write w xs i cs) k
      ∙ sym (get_or-take (i + length cs) (unpack w (write w xs i cs)) k false (omega arith))
      ∙ ap (λ l. get_or l k false) (take-write i cs l)
      ∙ get_or-append (take i (unpack w xs)) cs false k (rw (length-take-le i (unpack w xs) (rw length-unpack l)) q)
      ∙ get_or-take i (unpack w xs) k false q ∙ sym (bit_at-unpack w h xs k)

  -- the bits from i on are the written ones
  pub write-inside : (i : ℕ) (cs : List Bool) → i ≤ length xs * w → (k : ℕ) → k < length cs → bit_at w (write w xs i cs) (i + k) ≡ get_or cs k false
  write-inside i cs l k q =
      let n : length (take i (unpack w xs)) ≡ i = length-take-le i (unpack w xs) (rw length-unpack l) in
      bit_at-unpack w h (write w xs i cs) (i + k)
      ∙ sym (get_or-take (i + length cs) (unpack w (write w xs i cs)) (i + k) false (omega arith))
      ∙ ap₂ (λ l j. get_or l (j + k) false) (take-write i cs l) (sym n)
      ∙ get_or-append-add (take i (unpack w xs)) cs k false

  -- the rest of the last cell that is touched is 0
  pub write_unused : (i : ℕ) (cs : List Bool) → 0 < length cs → i ≤ length xs * w
      → (k : ℕ) → i + length cs ≤ k → k < cell_count w (i + length cs) * w → bit_at w (write w xs i cs) k ≡ false
  unfolding write in_front pack
  write_unused i [] p l k a z = absurd (omega arith)
  write_unused i (c ∷ cs) p l k a z =
      let bs = take i (unpack w xs) ++ (c ∷ cs) in
      let n : length bs ≡ i + length (c ∷ cs) = first_length i (c ∷ cs) l in
      let m = cell_count w (length bs) in
      let e : k < m * w = rw n z in
      let past = drop (length (fill w m bs)) xs in
      bit_at-unpack w h (fill w m bs ++ past) k
      ∙ ap (λ l. get_or l k false) (unpack-append w (fill w m bs) past)
      ∙ get_or-append (unpack w (fill w m bs)) (unpack w past) false k (rw (length-unpack, length-fill) e)
      ∙ ap (λ l. get_or l k false) (unpack-fill w m bs) ∙ getD_pad (m * w) bs k e ∙ get_or-eq_default bs false (omega arith)

  -- the cells behind the written bits stand
  pub write_past : (i : ℕ) (cs : List Bool) → i ≤ length xs * w
      → drop (cell_count w (i + length cs)) (write w xs i cs) ≡ drop (cell_count w (i + length cs)) xs
  unfolding write in_front
  write_past i [] l = refl
  write_past i (c ∷ cs) l =
      let bs = take i (unpack w xs) ++ (c ∷ cs) in
      let n : length (pack w bs) ≡ cell_count w (i + length (c ∷ cs)) = length-pack w bs ∙ ap (cell_count w) (first_length i (c ∷ cs) l) in
      drop_at (pack w bs) (drop (length (pack w bs)) xs) (cell_count w (i + length (c ∷ cs))) n ∙ ap (λ j. drop j xs) n

-- WRITING BIT AFTER BIT is writing all of them
abbrev pub write_each : (w : ℕ) → List ℕ → (i : ℕ) → List Bool → List ℕ
write_each w xs i [] = xs
write_each w xs i (c ∷ cs) = write_each w (write w xs i (c ∷ [])) (suc i) cs

pub write_each_all : (w : ℕ) → 0 < w → (xs : List ℕ) (i : ℕ) (cs : List Bool) → i + length cs ≤ length xs * w → write_each w xs i cs ≡ write w xs i cs
unfolding write
write_each_all w h xs i [] l = refl
write_each_all w h xs i (c ∷ cs) l =
    let n : length (write w xs i (c ∷ [])) ≡ length xs = length-write w h xs i (c ∷ []) (omega arith) in
    write_each_all w h (write w xs i (c ∷ [])) (suc i) cs (rw n (omega arith))
    ∙ write-write w h xs i (suc i) (c ∷ []) cs (omega arith) (omega arith)

-- a code that is written so from the start is its packing in front of whatever the buffer held
pub write_each-start : (w : ℕ) → 0 < w → (xs : List ℕ) (cs : List Bool) → length cs ≤ length xs * w → write_each w xs 0 cs ≡ in_front (pack w cs) xs
write_each-start w h xs cs l = write_each_all w h xs 0 cs (omega arith) ∙ write-start w h xs cs

-- ---- the cells that a write changes

take-unpack : (w q : ℕ) (xs : List ℕ) → q ≤ length xs → take (q * w) (unpack w xs) ≡ unpack w (take q xs)
take-unpack w zero xs l = let e : 0 * w ≡ 0 = omega arith in rw e refl
take-unpack w (suc q) [] l = absurd (omega arith)
take-unpack w (suc q) (x ∷ xs) l =
    let e : suc q * w ≡ length (bits_of w x) + q * w = omega (arith, suc-mul q w, length-bits_of w x) in
    rw e (take-append-add (bits_of w x) (unpack w xs) (q * w) ∙ ap (λ l. bits_of w x ++ l) (take-unpack w q xs (omega arith)))

-- whole cells, and what comes behind them
fill-append : (w q n : ℕ) (ps cs : List Bool) → length ps ≡ q * w → fill w (q + n) (ps ++ cs) ≡ fill w q ps ++ fill w n cs
fill-append w zero n [] cs e = rw zero-add refl
fill-append w zero n (p ∷ ps) cs e = absurd (omega arith)
fill-append w (suc q) n ps cs e =
    let l : w ≤ length ps = omega (arith, suc-mul q w) in
    rw suc-add
    (ap₂ (λ a l. a ∷ l) (cell_first w ps cs l)
    (ap (fill w (q + n)) (drop-append-le w ps cs l) ∙ fill-append w q n (drop w ps) cs (rw length-drop (omega (arith, suc-mul q w)))))

drop_join : (w : ℕ) (ts cs : List Bool) → length ts ≤ w → drop w (ts ++ cs) ≡ drop (w - length ts) cs
drop_join w [] cs h = rw (sub-zero w) refl
drop_join zero (t ∷ ts) cs h = absurd (omega arith)
drop_join (suc w) (t ∷ ts) cs h = rw (suc-sub-suc w (length ts)) (drop_join w ts cs (omega arith))

-- r bits of a cell, and nothing behind them
cell_high : (w r x : ℕ) → r ≤ w → x < 2 ^ w → cell w (take r (bits_of w x)) ≡ high_bits w r x
unfolding high_bits
cell_high w r x h l =
    let e : r + (w - r) ≡ w = omega arith in
    let t : take r (bits_of w x) ≡ bits_of r (x / 2 ^ (w - r)) = ap (λ n. take r (bits_of n x)) (sym e) ∙ take_bits r (w - r) x in
    ap₂ (λ n ts. cell n ts) (sym e) t
    ∙ cell_short (w - r) r (bits_of r (x / 2 ^ (w - r))) (omega (arith, length-bits_of r (x / 2 ^ (w - r))))
    ∙ ap (λ y. y * 2 ^ (w - r))
    (ap (cell r) (sym (append-nil (bits_of r (x / 2 ^ (w - r))))) ∙ cell_bits r (x / 2 ^ (w - r)) [] ∙ mod-eq_of_lt (shr_lt r (w - r) (rw e l)))

small_take : (w q : ℕ) (xs : List ℕ) → Small w xs → Small w (take q xs)
small_take w zero xs s k = pow_pos w
small_take w (suc q) [] s k = pow_pos w
small_take w (suc q) (x ∷ xs) s zero = s 0
small_take w (suc q) (x ∷ xs) s (suc k) = small_take w q xs (small_tail w x xs s) k

-- bits written from bit r of cell q on
module _ (w : ℕ) (xs : List ℕ) (s : Small w xs) (q r : ℕ) (l : q < length xs) (h : r < w) where
  -- the bits before: whole cells and r bits of cell q
  before : take (q * w + r) (unpack w xs) ≡ unpack w (take q xs) ++ take r (bits_of w (get_or xs q 0))
  before =
      let x = get_or xs q 0 in
      take-add (q * w) r (unpack w xs)
      ∙ ap₂ (λ a b. a ++ take r b) (take-unpack w q xs (omega arith)) (drop-unpack w q xs ∙ ap (unpack w) (drop-cons xs q 0 l))
      ∙ ap (λ b. unpack w (take q xs) ++ b) (take-append-le r (bits_of w x) (unpack w (drop (suc q) xs)) (omega (arith, length-bits_of w x)))

  written : (n : ℕ) (cs : List Bool)
      → fill w (q + suc n) (take (q * w + r) (unpack w xs) ++ cs) ≡ take q xs ++ ((high_bits w r (get_or xs q 0) + cell (w - r) cs) ∷ fill w n (drop (w - r) cs))
  written n cs =
      let x = get_or xs q 0 in
      let ps = unpack w (take q xs) in
      let ts = take r (bits_of w x) in
      let c : length (take q xs) ≡ q = length-take-le q xs (omega arith) in
      let m : length ps ≡ q * w = length-unpack w (take q xs) ∙ ap (λ i. i * w) c in
      let k : length ts ≡ r = length-take-le r (bits_of w x) (omega (arith, length-bits_of w x)) in
      ap (λ b. fill w (q + suc n) (b ++ cs)) before ∙ ap (fill w (q + suc n)) (append_assoc ps ts cs) ∙ fill-append w q (suc n) ps (ts ++ cs) m
      ∙ ap₂ (λ a b. a ++ b) (ap (λ i. fill w i ps) (sym c) ∙ fill-unpack w (take q xs) (small_take w q xs s))
      (ap₂ (λ a b. a ∷ fill w n b) (cell_join w ts cs (omega arith) ∙ ap₂ (λ a i. a + cell (w - i) cs) (cell_high w r x (omega arith) (s q)) k)
      (drop_join w ts cs (omega arith) ∙ ap (λ i. drop (w - i) cs) k))

  -- n cells behind cell q are touched too
  pub write_cells : (n : ℕ) (cs : List Bool) → 0 < length cs → cell_count w (q * w + r + length cs) ≡ q + suc n → q + suc n ≤ length xs
      → write w xs (q * w + r) cs ≡ sets xs q ((high_bits w r (get_or xs q 0) + cell (w - r) cs) ∷ fill w n (drop (w - r) cs))
  unfolding write pack in_front
  write_cells n [] p e g = absurd (omega arith)
  write_cells n (c ∷ cs) p e g =
      let bs = take (q * w + r) (unpack w xs) ++ (c ∷ cs) in
      let vs = (high_bits w r (get_or xs q 0) + cell (w - r) (c ∷ cs)) ∷ fill w n (drop (w - r) (c ∷ cs)) in
      let i : q * w + r ≤ length xs * w = omega (arith, suc-mul q w, mul-le-mul_right w l) in
      let m : length bs ≡ q * w + r + length (c ∷ cs) = first_length w (omega arith) xs (q * w + r) (c ∷ cs) i in
      let k : length vs ≡ suc n = ap suc (length-fill w n (drop (w - r) (c ∷ cs))) in
      let t : length (take q xs ++ vs) ≡ q + length vs = length-append (take q xs) vs ∙ ap (λ j. j + length vs) (length-take-le q xs (omega arith)) in
      ap (λ l. in_front l xs) (ap (λ j. fill w j bs) (ap (cell_count w) m ∙ e) ∙ written n (c ∷ cs))
      ∙ ap (λ j. (take q xs ++ vs) ++ drop j xs) t ∙ sym (sets-eq vs xs q (omega arith))

-- the kept bits and those that are added do not meet
pub high_or : (w r x y : ℕ) → y < 2 ^ (w - r) → bit_or (high_bits w r x) y ≡ high_bits w r x + y
unfolding high_bits
high_or w r x y h = or_shifted (x / 2 ^ (w - r)) (w - r) y h

pub high_le : (w r x : ℕ) → high_bits w r x ≤ x
unfolding high_bits
high_le w r x = omega (arith, split x (w - r))

-- by two shifts in a wider word
pub high_shift : (w n r x : ℕ) → w ≤ n → x < 2 ^ w → (x / 2 ^ (w - r) * 2 ^ (w - r)) % 2 ^ n ≡ high_bits w r x
unfolding high_bits
high_shift w n r x h l = mod-eq_of_lt (omega (arith, split x (w - r), pow_mono h))

-- ONE BIT, as a program sets it
pub write-bit : (w : ℕ) (xs : List ℕ) → Small w xs → (i : ℕ) → 0 < w → i < length xs * w → (b : Bool)
    → write w xs i (b ∷ []) ≡ set xs (i / w) (bit_or (high_bits w (i % w) (get_or xs (i / w) 0)) ((bit b * 2 ^ (w - 1 - i % w)) % 2 ^ w))
write-bit w xs s i h l b =
    ap (λ j. write w xs j (b ∷ [])) (sym (div-add-mod' i w)) ∙ go (i / w) (i % w) ((div-lt_iff_lt-mul h).1 l) (mod-lt i h)
  where
    go : (q r : ℕ) → q < length xs → r < w → write w xs (q * w + r) (b ∷ []) ≡ set xs q
        (bit_or (high_bits w r (get_or xs q 0)) ((bit b * 2 ^ (w - 1 - r)) % 2 ^ w))
    go q r k g =
        let x = get_or xs q 0 in
        let a : w - r ≡ suc (w - 1 - r) = omega arith in
        let n : q * w + r + 1 ≡ q * w + (r + 1) = omega arith in
        let o : q + 1 ≡ suc q = omega arith in
        let p : cell (w - r) (b ∷ []) < 2 ^ (w - r) = cell_lt (w - r) (b ∷ []) in
        let c : cell (w - r) (b ∷ []) ≡ bit b * 2 ^ (w - 1 - r) = ap (λ j. cell j (b ∷ [])) a ∙ rw (cell_nil (w - 1 - r)) (omega arith) in
        let y : w - r ≤ w = omega arith in
        let m : (bit b * 2 ^ (w - 1 - r)) % 2 ^ w ≡ bit b * 2 ^ (w - 1 - r) = mod-eq_of_lt (omega (arith, pow_mono y)) in
        write_cells w xs s q r k g 0 (b ∷ []) (omega arith) (ap (cell_count w) n ∙ cells_begun w q (r + 1) (omega arith) (omega arith) ∙ sym o) (omega arith)
        ∙ ap (set xs q) (sym (high_or w r x (cell (w - r) (b ∷ [])) p) ∙ ap (bit_or (high_bits w r x)) (c ∙ sym m))

-- A NUMBER OF w BITS at the start of a cell: the cell
pub write-whole : (w : ℕ) (xs : List ℕ) → Small w xs → (i : ℕ) → 0 < w → i / w < length xs → i % w ≡ 0 → (c : ℕ) → c < 2 ^ w
    → write w xs i (bits_of w c) ≡ set xs (i / w) c
unfolding high_bits
write-whole w xs s i h l z c k =
    let q = i / w in
    let n = length-bits_of w c in
    let j : q * w + 0 ≡ i = omega (arith, div-add-mod' i w) in
    let m : q * w + 0 + length (bits_of w c) ≡ q * w + w = omega arith in
    let o : q + 1 ≡ suc q = omega arith in
    let d : get_or xs q 0 / 2 ^ w ≡ 0 = div-eq_of_lt (s q) in
    let e : cell w (bits_of w c) ≡ c = ap (cell w) (sym (append-nil (bits_of w c))) ∙ cell_bits w c [] ∙ mod-eq_of_lt k in
    ap (λ j. write w xs j (bits_of w c)) (sym j)
    ∙ write_cells w xs s q 0 l h 0 (bits_of w c) (omega arith) (ap (cell_count w) m ∙ cells_begun w q w h (omega arith) ∙ sym o) (omega arith)
    ∙ ap (set xs q) (rw (sub-zero w, d, e) (omega arith))

-- a number pushed up by k bits in a cell of r + k loses all but its r lowest bits
shift_cut : (r k c : ℕ) → (c * 2 ^ k) % 2 ^ (r + k) ≡ (c % 2 ^ r) * 2 ^ k
shift_cut r k c =
    let z : c * 2 ^ k + 0 ≡ c * 2 ^ k = omega arith in
    let m : (c * 2 ^ k) % 2 ^ k ≡ 0 = ap (λ x. x % 2 ^ k) (sym z) ∙ low c k (pow_pos k) in
    mod-pow-add (c * 2 ^ k) r k ∙ ap₂ (λ x y. (x % 2 ^ r) * 2 ^ k + y) (shl-shr c k) m ∙ omega arith

-- and over two cells elsewhere: its high part behind the kept bits, its low part at the top of the next cell
pub write-parts : (w : ℕ) (xs : List ℕ) → Small w xs → (i : ℕ) → 0 < w → i / w + 1 < length xs → (i % w ≡ 0 → ⊥) → (c : ℕ) → c < 2 ^ w
    → write w xs i (bits_of w c)
    ≡ set (set xs (i / w) (bit_or (high_bits w (i % w) (get_or xs (i / w) 0)) (c / 2 ^ (i % w)))) (i / w + 1) ((c * 2 ^ (w - i % w)) % 2 ^ w)
write-parts w xs s i g l z c k =
    ap (λ j. write w xs j (bits_of w c)) (sym (div-add-mod' i w)) ∙ go (i / w) (i % w) (omega arith) (mod-lt i g) (omega arith)
    ∙ ap (λ j. set (set xs (i / w) (bit_or (high_bits w (i % w) (get_or xs (i / w) 0)) (c / 2 ^ (i % w)))) j ((c * 2 ^ (w - i % w)) % 2 ^ w))
    (sym (add-one (i / w)))
  where
    go : (q r : ℕ) → 0 < r → r < w → suc q < length xs
        → write w xs (q * w + r) (bits_of w c) ≡ set (set xs q (bit_or (high_bits w r (get_or xs q 0)) (c / 2 ^ r))) (suc q) ((c * 2 ^ (w - r)) % 2 ^ w)
    go q r p h l =
        let n = length-bits_of w c in
        let m : q * w + r + length (bits_of w c) ≡ suc q * w + r = omega (arith, suc-mul q w) in
        let o : q + 2 ≡ suc (suc q) = omega arith in
        let a : (w - r) + r ≡ w = omega arith in
        let b : r + (w - r) ≡ w = omega arith in
        let two : bits_of w c ≡ bits_of (w - r) (c / 2 ^ r) ++ bits_of r c = ap (λ j. bits_of j c) (sym a) ∙ split_bits (w - r) r c in
        let small : c / 2 ^ r < 2 ^ (w - r) = shr_lt (w - r) r (rw a k) in
        let hi : cell (w - r) (bits_of w c) ≡ c / 2 ^ r = ap (cell (w - r)) two ∙ cell_bits (w - r) (c / 2 ^ r) (bits_of r c) ∙ mod-eq_of_lt small in
        let t : drop (w - r) (bits_of w c) ≡ bits_of r c =
        ap (drop (w - r)) two ∙ drop_at (bits_of (w - r) (c / 2 ^ r)) (bits_of r c) (w - r) (length-bits_of (w - r) (c / 2 ^ r)) in
        let lo : cell w (drop (w - r) (bits_of w c)) ≡ (c * 2 ^ (w - r)) % 2 ^ w =
        ap₂ (λ j l. cell j l) (sym b) t ∙ cell_short (w - r) r (bits_of r c) (omega (arith, length-bits_of r c))
        ∙ ap (λ x. x * 2 ^ (w - r)) (ap (cell r) (sym (append-nil (bits_of r c))) ∙ cell_bits r c []) ∙ sym (shift_cut r (w - r) c)
        ∙ ap (λ j. (c * 2 ^ (w - r)) % 2 ^ j) b in
        write_cells w xs s q r (omega arith) h 1 (bits_of w c) (omega arith) (ap (cell_count w) m ∙ cells_begun w (suc q) r p (omega arith) ∙ sym o)
        (omega arith)
        ∙ ap₂ (λ y z. set (set xs q y) (suc q) z)
        (ap (λ y. high_bits w r (get_or xs q 0) + y) hi ∙ sym (high_or w r (get_or xs q 0) (c / 2 ^ r) small)) lo
