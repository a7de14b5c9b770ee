mod Hops
