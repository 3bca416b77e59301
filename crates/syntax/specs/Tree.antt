-- The labelled tree of a pattern: 001's regular expression, each node marked with its index in the table (01: its place) and its account.
use Rattle.std.specs.Prelude.{Bool, ℕ}

-- what a node is marked with; account 0 stands for none
pub record Label : Type 0 where
  pub index : ℕ
  pub account : ℕ

pub data Tree : Type 0 where
  nothing : Label → Tree
  letter : Label → ℕ → Tree
  range : Label → (low high : ℕ) → Tree
  seq : Label → Tree → Tree → Tree
  alt : Label → Tree → Tree → Tree
  -- `again` is the bit that means another round: false, written 0, for kind `K`; true, written 1, for kind `Z`, the lazy star.
  -- 02: "Add kind `Z`, one part, which writes 0 to stop and 1 before a round."
  star : Label → (again : Bool) → Tree → Tree

abbrev pub label : Tree → Label
label (nothing m) = m
label (letter m c) = m
label (range m low high) = m
label (seq m t u) = m
label (alt m t u) = m
label (star m again t) = m

-- 01: a node's place
abbrev pub index : Tree → ℕ
index t = (label t).index
