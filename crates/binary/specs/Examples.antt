-- 01's listing as bits and bytes: the definitions compute to what it prints.
use Rattle.std.specs.Prelude.{◌≡◌, refl, Bool, true, false, List, [], ◌∷◌, ◌++◌, length}
use Rattle.binary.specs.Bits.{bits_of, pack, held, bit_at, number_at, in_front, write, exact, handed_good, test_bit, count_below}

-- 01, "A whole listing", tape `3W2`: a round, the right side, `3`; a round, the left side, `2`; stop
abbrev pub listing : List Bool
listing = false ∷ true ∷ bits_of 8 51 ++ (false ∷ false ∷ bits_of 8 50 ++ (true ∷ []))

pub record Listing : Type 0 where
  pub count : length listing ≡ 21
  pub bytes : pack 8 listing ≡ 0x4c ∷ 0xc3 ∷ 0x28 ∷ []
  pub back : held 8 (0x4c ∷ 0xc3 ∷ 0x28 ∷ []) 21 ≡ listing
  pub letter : number_at 8 (0x4c ∷ 0xc3 ∷ 0x28 ∷ []) 12 8 ≡ 50
  pub stop : bit_at 8 (0x4c ∷ 0xc3 ∷ 0x28 ∷ []) 20 ≡ true
  pub good : handed_good (0x4c ∷ 0xc3 ∷ 0x28 ∷ []) 21 ≡ true
  pub padding : handed_good (0x4c ∷ 0xc3 ∷ 0x29 ∷ []) 21 ≡ false
  pub short : handed_good (0x4c ∷ 0xc3 ∷ []) 21 ≡ false
  pub long : handed_good (0x4c ∷ 0xc3 ∷ 0x28 ∷ 0 ∷ []) 21 ≡ false
  pub empty : handed_good [] 0 ≡ true
  pub idle : handed_good (0 ∷ []) 0 ≡ false
  pub written : write 8 (0x4c ∷ 0xff ∷ 0xff ∷ 0xff ∷ []) 12 (bits_of 8 50) ≡ 0x4c ∷ 0xf3 ∷ 0x20 ∷ 0xff ∷ []
  -- nodes 0, 3, 4 and 5 are open at position 0
  pub ones : count_below 64 (test_bit 57) ≡ 4

pub listing_holds : Listing
unfolding pack held bit_at number_at in_front write exact handed_good bits_of count_below
listing_holds =
    record {
      count = refl;
      bytes = refl;
      back = refl;
      letter = refl;
      stop = refl;
      good = refl;
      padding = refl;
      short = refl;
      long = refl;
      empty = refl;
      idle = refl;
      written = refl;
      ones = refl;
    }
