-- The limits of 01, Stations, links and limits, each named once. The greatest cost is `network`'s `greatest_cost`.
-- Assumes nothing.
use Rattle.std.specs.Prelude.{ℕ}

-- 1 to 64 routers
abbrev pub most_routers : ℕ
most_routers = 64

-- 0 to 256 links
abbrev pub most_links : ℕ
most_links = 256

-- 02, #105: at most 512 halves in a stream, lone ones too
abbrev pub most_halves : ℕ
most_halves = 512

-- at most 16 neighbours to a router, and 16 halves that leave it, lone ones too (02, #105)
abbrev pub most_neighbours : ℕ
most_neighbours = 16

-- a next-hop limit K from 1 to 16
abbrev pub most_next_hops : ℕ
most_next_hops = 16

-- 02, #101: a stream without record 8 means K = 3
abbrev pub default_next_hops : ℕ
default_next_hops = 3
