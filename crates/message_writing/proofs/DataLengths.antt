-- Data that are written have 65,535 octets at most
use Rattle.std.proofs.Common.{◌≡◌, ℕ, zero, suc, ◌+◌, ◌*◌, ◌/◌, ◌≤◌, List, [], ◌∷◌, ◌++◌, length, Option, Some, None, refl, arith}
use Rattle.std.proofs.lemmas.List.{length-append}
use Rattle.zone_proto.specs.Names.{Name, wire_form, wire_length}
use Rattle.zone_proto.specs.declared.rdata.RData.{RData}
use Rattle.zone_proto.specs.declared.rdata.RData.TheVariants as V
use Rattle.message_reading.specs.TypeMaps.{weights}
use Rattle.message_writing.specs.declared.name_writer.Cut.{Cut}
use Rattle.message_writing.specs.KnownNames.{cut_text, ending}
use Rattle.message_writing.specs.TypeMapText.{bits_taken, octets_taken, last_of, count_for, block, map_text, window_front, window_rest, numbers}
use Rattle.message_writing.specs.DataText.{timers_text, types_text, hashing_text, counted_text, data_text, IsWritable, IsSound, AreCutsOf}

ending_short : (pointer : Option ℕ) → length (ending pointer) ≤ 2
ending_short None = omega arith
ending_short (Some p) = omega arith

pub cut_short_text : (k : ℕ) (pointer : Option ℕ) (n : Name) → length (cut_text k pointer n) ≤ wire_length n + 1
cut_short_text zero pointer [] = omega (arith, ending_short pointer)
cut_short_text zero pointer (l ∷ n) = omega (arith, ending_short pointer, cut_short_text zero None n)
cut_short_text (suc k) pointer [] = omega (arith, ending_short pointer)
cut_short_text (suc k) pointer (l ∷ n) = omega (arith, length-append l (cut_text k pointer n), cut_short_text k pointer n)

pub wire_is : (n : Name) → length (wire_form n) ≡ wire_length n
wire_is [] = refl
wire_is (l ∷ n) = omega (arith, wire_is n, length-append l (wire_form n))

octets_count : (count n : ℕ) (ts : List ℕ) → length (octets_taken count n ts).0 ≡ count
octets_count zero n ts = refl
octets_count (suc count) n ts = omega (arith, octets_count count (n + 8) (bits_taken weights n ts).1)

block_short : (t : ℕ) (ts : List ℕ) → length (block t ts) ≤ 34
block_short t ts = omega (arith, octets_count (count_for (last_of t ts)) (t / 256 * 256) (t ∷ ts))

pub map_short : (k : ℕ) (ts : List ℕ) → length (map_text k ts) ≤ 34 * k
map_short zero ts = omega arith
map_short (suc k) [] = omega arith
map_short (suc k) (t ∷ ts) =
    let front = window_front (t / 256) ts in
    omega (
      arith,
      length-append (block t front) (map_text k (window_rest (t / 256) ts)),
      block_short t front,
      map_short k (window_rest (t / 256) ts),
    )

pub data_short : (before : List ℕ) (first second : Cut) (d : RData) → IsWritable d → IsSound d → AreCutsOf before first second d
    → length (data_text first second d) ≤ 65535
data_short before first second (V.A a) w s c = omega (arith, s)
data_short before first second (V.AAAA a) w s c = omega (arith, s)
data_short before first second (V.NS n) w s c = omega (arith, cut_short_text first.labels first.pointer n, c.valid.short)
data_short before first second (V.CNAME n) w s c = omega (arith, cut_short_text first.labels first.pointer n, c.valid.short)
data_short before first second (V.ANAME n) w s c = omega (arith, wire_is n, s.short)
data_short before first second (V.SOA d) w s c =
    let a = cut_text first.labels first.pointer d.mname in
    let b = cut_text second.labels second.pointer d.rname in
    omega (
      arith,
      length-append a (b ++ timers_text d),
      length-append b (timers_text d),
      cut_short_text first.labels first.pointer d.mname,
      cut_short_text second.labels second.pointer d.rname,
      c.0.valid.short,
      c.1.valid.short,
    )
data_short before first second (V.MX d) w s c = omega (arith, cut_short_text first.labels first.pointer d.exchange, c.valid.short)
data_short before first second (V.SRV d) w s c = omega (arith, wire_is d.target, s.short)
data_short before first second (V.DNSKEY d) w s c = omega (arith, w)
data_short before first second (V.NSEC d) w s c =
    omega (arith, length-append (wire_form d.next_domain_name) (types_text d.types), wire_is d.next_domain_name, s.0.short, map_short 256 (numbers d.types))
data_short before first second (V.NSEC3 d) w s c =
    omega (
      arith,
      length-append (hashing_text d.algorithm d.opt_out d.iterations d.salt) (counted_text d.next_hashed_owner_name ++ types_text d.types),
      length-append (counted_text d.next_hashed_owner_name) (types_text d.types),
      w.0,
      w.2,
      map_short 256 (numbers d.types),
    )
data_short before first second (V.NSEC3PARAM d) w s c = omega (arith, w)
data_short before first second (V.RRSIG d) w s c =
    omega (arith, length-append (wire_form d.signer_name) d.signature, wire_is d.signer_name, w)
data_short before first second (V.Other d) w s c = omega (arith, w.1.0)
