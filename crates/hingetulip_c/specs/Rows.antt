-- Rows of a packet file as packets of C.
use Rattle.std.specs.Prelude.{◌≡◌, ℕ, ◌+◌, List, Ok, drop, length, map, take}
use Rattle.dn_files.specs.PacketParts.{rows_left, with_front}
use Rattle.dn_files.specs.declared.row.Row.{Row}
use Rattle.hingetulip_c.specs.Lists.{kind_of, number_of}
use Rattle.hingetulip_c.specs.declared.records.c_packet.CPacket.{CPacket}

-- A row as C reads it.
abbrev pub c_packet : Row → CPacket
c_packet r = record {
  moment = r.moment;
  src = r.packet.tuple.src;
  dst = r.packet.tuple.dst;
  word = r.packet.word;
  sport = r.packet.tuple.sport;
  dport = r.packet.tuple.dport;
  length = r.packet.len;
  number = number_of r.target;
  kind = kind_of r.target;
  proto = r.packet.tuple.proto;
  reserved = 0;
}

-- These packets are the rows of a text's first so many bytes, whatever stands behind these, and its other rows are those of what stands
-- there.
pub record HasRead (text : List ℕ) (used : ℕ) (packets : List CPacket) : Type 0 where
  pub rows : List Row
  pub packets_are : packets ≡ map c_packet rows
  pub told : rows_left 1 (take used text) ≡ Ok rows
  pub goes_on : with_front rows (rows_left (1 + length rows) (drop used text)) ≡ rows_left 1 text

-- A text has so many rows, and no fault.
pub record HasCount (text : List ℕ) (count : ℕ) : Type 0 where
  pub rows : List Row
  pub rows_are : rows_left 1 text ≡ Ok rows
  pub count_is : count ≡ length rows
