-- The tests of a lookup, one at a time; and two memories in which the same stands everywhere are looked up alike. Assumes nothing.
use Rattle.std.specs.Prelude.{Option}
use mathlib.Core.Path.{◌≡◌}
use mathlib.Core.Bool.{true, false, ◌&&◌}
use Prim.Native.Nat.{ℕ, ◌+◌, ◌*◌, ◌<◌, ◌≤◌}
use lib.Dec.{eqb}
use borrow.Author.Tests.{lt-ltb, le-ltb}
use Rattle.header.specs.declared.Header as H
use Rattle.lookup.specs.Record.{size}
use Rattle.lookup.specs.Lookup.{by_got, by_fields}
use Rattle.lookup.specs.declared.Looked.TheVariants.{Ignored, Misrouted}
use Rattle.lookup.specs.declared.Record as R

module _ (stands : ℕ → Option R.Record) (top place : ℕ) (h : H.Header) where
  pub no_path : (eqb h.vpi 0 && eqb h.vci 0) ≡ true → by_fields stands top place h ≡ Ignored
  no_path z = rw z

  pub above_top : (eqb h.vpi 0 && eqb h.vci 0) ≡ false → top < h.vpi → by_fields stands top place h ≡ Misrouted
  above_top z a = rw (z, lt-ltb top h.vpi a)

  pub by_record : (eqb h.vpi 0 && eqb h.vci 0) ≡ false → h.vpi ≤ top → by_fields stands top place h ≡ by_got stands (stands (place + size * h.vpi)) h
  by_record z a = rw (z, le-ltb top h.vpi a)
